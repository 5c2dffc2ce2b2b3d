pub mod Alls
pub mod AllsExist
pub mod ArcOrder
pub mod LineLemmas
