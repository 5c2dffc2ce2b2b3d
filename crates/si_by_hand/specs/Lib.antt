pub mod GateText
pub mod HandReadings
pub mod Forcing
pub mod GateLaws
pub mod Partitions
pub mod ByHand
pub mod Laws
pub mod Loops
