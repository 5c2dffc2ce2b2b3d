pub mod Hidden
pub mod Certify
pub mod Laws
pub mod Loops
