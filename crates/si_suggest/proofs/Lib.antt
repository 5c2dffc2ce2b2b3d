pub mod LiteralCounts
pub mod NeverLemmas
pub mod OfferLemmas
