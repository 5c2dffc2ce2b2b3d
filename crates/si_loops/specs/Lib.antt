pub mod Arcs
pub mod LoopsText
pub mod Laws
pub mod Loops
