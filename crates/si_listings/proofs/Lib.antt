mod Examples
pub mod ListingLemmas
pub mod NumberLemmas
pub mod ListingsExist
pub mod CoverLemmas
