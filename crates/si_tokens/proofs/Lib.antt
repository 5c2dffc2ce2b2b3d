mod Examples
pub mod SourceLemmas
pub mod CutLemmas
pub mod LinePartLemmas
pub mod SumPartLemmas
