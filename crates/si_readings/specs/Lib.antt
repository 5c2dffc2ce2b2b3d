pub mod Readings
pub mod Checks
pub mod SeenGraph
pub mod Laws
