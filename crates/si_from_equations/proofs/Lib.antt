mod Examples
pub mod ProductLemmas
pub mod SumValues
pub mod SumShapes
pub mod ValueLemmas
pub mod ShapeLemmas
pub mod StartLemmas
pub mod PlaceLemmas
pub mod ElementLemmas
pub mod WholeLemmas
pub mod SignalLemmas
pub mod NetlistLemmas
pub mod GateLemmas
mod BesideExamples
