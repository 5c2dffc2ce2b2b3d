pub mod EquationsLemmas
mod PortedLemmas
pub mod ResettableLemmas
pub mod StructureLemmas
pub mod TimingLemmas
mod Examples
