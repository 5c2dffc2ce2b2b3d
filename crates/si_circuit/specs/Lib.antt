pub mod Gates
pub mod Covered
pub mod Spelled
pub mod Spelling
pub mod InsertionWords
pub mod Circuits
pub mod Cells
pub mod Wires
