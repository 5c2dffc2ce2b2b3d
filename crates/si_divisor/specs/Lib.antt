pub mod Divisors
pub mod DivisorLaws
pub mod Targets
pub mod Switching
pub mod PartitionFor
pub mod Functions
pub mod Laws
pub mod Loops
