pub mod Kin
pub mod Loops
