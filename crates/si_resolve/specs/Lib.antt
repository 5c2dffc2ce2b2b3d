pub mod Best
pub mod Trace
pub mod Ends
pub mod Laws
pub mod Loops
