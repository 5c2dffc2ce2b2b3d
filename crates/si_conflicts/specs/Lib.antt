pub mod Conflicts
pub mod Left
pub mod Laws
pub mod Loops
