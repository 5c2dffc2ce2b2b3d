pub mod HiddenLemmas
pub mod ThereLemmas
pub mod SpelledLemmas
pub mod ReasonLemmas
pub mod CertifyLemmas
mod Examples
