pub mod Names
pub mod Equations
pub mod Whole
pub mod Written
pub mod Meaning
