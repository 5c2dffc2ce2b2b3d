pub mod Breaches
pub mod BreachText
pub mod Laws
pub mod Loops
