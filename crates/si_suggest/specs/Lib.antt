pub mod Literals
pub mod Never
pub mod Suggested
pub mod Loops
