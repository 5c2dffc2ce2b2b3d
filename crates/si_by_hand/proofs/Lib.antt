pub mod ForcedSetLemmas
pub mod PartitionByGate
pub mod OwnValues
pub mod LeastForGates
pub mod GateLineLemmas
pub mod HandReadingLemmas
pub mod ToldReasons
pub mod PartitionStages
pub mod ByHandTexts
mod Examples
