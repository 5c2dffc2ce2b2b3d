mod Examples
pub mod OneBest
pub mod SearchSteps
pub mod TraceLemmas
pub mod BestExists
pub mod EndsExist
pub mod BlockSizes
pub mod BlockListLemmas
pub mod AspectLemmas
pub mod SearchLemmas
pub mod CountingLemmas
pub mod ResolveLemmas
