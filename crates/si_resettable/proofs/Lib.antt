pub mod PlaceLemmas
pub mod ResetSignal
pub mod LineLemmas
pub mod ModuleLemmas
pub mod OutcomeLemmas
pub mod WritingLemmas
pub mod SettlingLemmas
mod Examples
