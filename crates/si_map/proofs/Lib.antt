mod Examples
mod TraceExamples
pub mod EndLemmas
pub mod BestWeight
pub mod SearchConflicts
pub mod SearchFitted
pub mod BestDivisors
pub mod OneBest
pub mod SearchSteps
pub mod PackedLemmas
pub mod SearchLemmas
pub mod SearchSignals
pub mod DivisorFunctions
pub mod BestExists
pub mod TraceLemmas
pub mod EndsExist
