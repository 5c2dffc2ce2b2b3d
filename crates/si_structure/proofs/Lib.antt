pub mod NameLemmas
pub mod ReadingLemmas
pub mod ModuleLemmas
pub mod CellLemmas
pub mod LookupLemmas
pub mod ValueLemmas
pub mod PlacementLemmas
pub mod InverterLemmas
pub mod DistinctLemmas
pub mod StructureLemmas
pub mod ResetLemmas
pub mod OneMeaning
pub mod TextLemmas
pub mod OutcomeLemmas
pub mod GateDecisions
pub mod NetlistDecisions
mod SameLemmas
mod HeadWriting
mod PlacementWriting
mod Examples
