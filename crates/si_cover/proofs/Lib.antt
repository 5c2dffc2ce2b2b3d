pub mod DemandCodes
pub mod DemandLemmas
pub mod SetLemmas
pub mod MonoLemmas
pub mod GrowingLemmas
pub mod MonosExist
pub mod Examples
mod MonoExamples
