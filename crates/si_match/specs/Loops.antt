-- What the parts of a computation keep: for the proofs of the code, and in no promise of a run.
pub mod Search
pub mod Codes
pub mod Dropping
pub mod Differences
pub mod Known
pub mod Columns
pub mod Places
pub mod Rows
pub mod Choices
pub mod Apart
