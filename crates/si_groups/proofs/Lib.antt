pub mod GroupLemmas
pub mod AloneJoined
pub mod FreeGroups
pub mod WholeRight
pub mod BetweenLemmas
pub mod SettleLemmas
pub mod OneWork
pub mod SomeWork
