pub mod Form
pub mod Command
pub mod About
pub mod Loops
