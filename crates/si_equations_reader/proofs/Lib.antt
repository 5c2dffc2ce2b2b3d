mod Examples
pub mod StepLemmas
pub mod NameLemmas
pub mod MachineLemmas
pub mod NamedValueLemmas
pub mod ProgressLemmas
pub mod ListLemmas
pub mod StatementLemmas
pub mod ValueLemmas
