-- What the parts of a computation keep: for the proofs of the code, and in no promise of a run.
pub mod Next
pub mod Places
pub mod Steps
pub mod Turns
pub mod Wild
