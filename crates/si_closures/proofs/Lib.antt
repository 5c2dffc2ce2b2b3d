pub mod WordBits
pub mod SameStates
pub mod SignalKinds
pub mod WordSearchLemmas
pub mod WordLemmas
pub mod TurnedLemmas
pub mod RowLemmas
mod Examples
