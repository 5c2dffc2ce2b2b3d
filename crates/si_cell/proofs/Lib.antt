mod Examples
pub mod WordLemmas
pub mod OrderLemmas
pub mod CubeLemmas
pub mod CellLemmas
mod PinCubeLemmas
pub mod PlacedLemmas
pub mod ExpandedLemmas
mod TableLemmas
pub mod LawLemmas
