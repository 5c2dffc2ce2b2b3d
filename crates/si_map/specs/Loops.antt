-- What the parts of a computation keep: for the proofs of the code, and in no promise of a run.
pub mod Search
pub mod Packed
pub mod Functions
pub mod Progress
