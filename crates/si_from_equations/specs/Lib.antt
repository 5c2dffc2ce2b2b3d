pub mod Limits
pub mod Sums
pub mod SumLaws
pub mod Given
pub mod Beside
pub mod BesideLaws
pub mod Unsummed
