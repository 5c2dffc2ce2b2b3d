pub mod ForkOrder
pub mod SearchLemmas
pub mod ForkLemmas
pub mod LossLemmas
pub mod SquareLemmas
pub mod ProperLemmas
pub mod ConflictLemmas
mod ByCodesLemmas
pub mod ConflictFree
pub mod ByCodesExist
pub mod SearchFirst
pub mod SearchDecisions
pub mod ValuesDecided
pub mod BreachesDecided
pub mod ConflictsDecided
pub mod UniqueBreaches
