pub mod Comments
pub mod Limits
pub mod Placed
pub mod Parts
pub mod Expressions
pub mod Modules
pub mod Meaning
pub mod Loops
