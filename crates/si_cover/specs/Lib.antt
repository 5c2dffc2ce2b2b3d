pub mod Demands
pub mod Mono
pub mod MonoLaws
pub mod Loops
