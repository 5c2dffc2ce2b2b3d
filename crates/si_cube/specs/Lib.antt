pub mod Literals
pub mod Cubes
pub mod Covers
pub mod Needed
pub mod Rule
pub mod Order
