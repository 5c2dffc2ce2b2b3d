pub mod KinLemmas
pub mod KinRows
mod ForestLemmas
mod ClassLemmas
mod AlikeLemmas
mod FirstKin
pub mod KinDecided
mod Examples
