pub mod ResettableText
pub mod Meaning
pub mod Refusals
pub mod Forcing
pub mod Laws
