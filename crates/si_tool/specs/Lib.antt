pub mod Loads
pub mod Meaning
pub mod Run
pub mod Laws
pub mod Theorem
pub mod Together
