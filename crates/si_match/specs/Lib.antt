pub mod Fit
pub mod Triggers
pub mod Support
pub mod Weight
pub mod Functions
pub mod Loops
