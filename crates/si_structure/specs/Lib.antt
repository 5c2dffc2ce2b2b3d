pub mod Parts
pub mod StructureText
pub mod Meaning
pub mod Refusals
pub mod Laws
pub mod Loops
