pub mod Names
pub mod Events
pub mod Sums
pub mod Lines
pub mod Rows
pub mod Ends
pub mod Loops
