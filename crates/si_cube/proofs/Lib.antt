pub mod LiteralLemmas
pub mod LeastLemmas
pub mod NeededLemmas
pub mod CubeFacts
pub mod RuleLemmas
pub mod GrowthLemmas
pub mod NeededCounts
pub mod OrderLemmas
pub mod SumLemmas
pub mod WriteSumsLemmas
mod Examples
