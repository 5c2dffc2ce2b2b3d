pub mod NetlistStage
pub mod StartsLemmas
pub mod CertifyLemmas
mod Examples
