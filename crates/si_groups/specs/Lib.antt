pub mod Groups
pub mod Together
pub mod Laws
pub mod Loops
