pub mod Closure
pub mod Faults
pub mod Excited
pub mod NextCodes
pub mod Laws
pub mod Loops
