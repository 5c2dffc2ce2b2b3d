pub mod Instances
pub mod TimingText
pub mod Arcs
pub mod Refusals
pub mod Meaning
pub mod Laws
pub mod Loops
