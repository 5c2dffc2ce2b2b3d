pub mod NotFound
pub mod Laws
pub mod Loops
