pub mod InternalGraphLemmas
pub mod InternalGraphGates
pub mod NameLemmas
pub mod CurrentTexts
mod Examples
