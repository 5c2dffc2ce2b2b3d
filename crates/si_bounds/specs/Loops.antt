-- What the parts of a computation keep: for the proofs of the code, and in no promise of a run.
pub mod Fitted
pub mod Waiting
pub mod Least
pub mod Kept
pub mod Points
pub mod Needs
pub mod Supports
pub mod Unfit
pub mod Bounds
