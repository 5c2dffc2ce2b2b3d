pub mod Cutting
pub mod Examples
pub mod Deciding
pub mod PathLemmas
pub mod SplitLemmas
pub mod ArcLemmas
pub mod TextLemmas
