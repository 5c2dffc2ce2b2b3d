pub mod ReadingLemmas
mod Examples
