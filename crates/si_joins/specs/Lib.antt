pub mod Lifted
pub mod Steps
pub mod Gates
pub mod Join
pub mod Laws
pub mod Loops
