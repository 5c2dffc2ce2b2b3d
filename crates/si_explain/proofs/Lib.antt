pub mod EventLemmas
pub mod ExplainLines
pub mod ExplainTexts
pub mod ExplainUnresolved
mod Examples
