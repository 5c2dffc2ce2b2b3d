mod Examples
mod LiteralLemmas
mod WritingLemmas
pub mod TokenLemmas
pub mod NameLemmas
pub mod ChainLemmas
pub mod MeaningLemmas
pub mod LineLemmas
pub mod NetlistLemmas
pub mod NewLemmas
pub mod EquationLemmas
pub mod WrittenLemmas
pub mod MeansLemmas
pub mod ListLemmas
pub mod WholeLemmas
