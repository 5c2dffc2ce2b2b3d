pub mod Limits
pub mod Library
pub mod CellWords
pub mod LibraryText
pub mod Literals
pub mod Expanded
pub mod Loops
