pub mod Names
pub mod Halts
pub mod Compose
pub mod Product
pub mod Laws
pub mod ProductLaws
pub mod Loops
