pub mod Steps
pub mod Held
pub mod Read
pub mod Loops
