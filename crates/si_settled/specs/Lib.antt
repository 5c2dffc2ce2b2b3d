pub mod Settling
pub mod ResetText
pub mod Laws
pub mod Loops
