pub mod Walks
pub mod Paths
pub mod Tree
pub mod Distances
pub mod Joined
pub mod Twins
pub mod Laws
pub mod Loops
