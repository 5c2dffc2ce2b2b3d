pub mod Interval
pub mod Blocks
pub mod Parts
pub mod Blocking
pub mod Laws
pub mod Loops
