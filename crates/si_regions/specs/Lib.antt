pub mod Connected
pub mod Regions
pub mod Laws
pub mod Loops
