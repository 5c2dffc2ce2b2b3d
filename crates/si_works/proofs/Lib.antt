pub mod EachLemmas
pub mod AuditedLemmas
pub mod PairLemmas
pub mod WorksLemmas
pub mod PlaceLemmas
pub mod ShownLemmas
