pub mod All
pub mod ToldLines
pub mod Loops
