pub mod GateLemmas
pub mod ReadLemmas
pub mod WritingLemmas
mod PieceLemmas
mod Examples
