-- What the parts of a computation keep: for the proofs of the code, and in no promise of a run.
pub mod Keys
pub mod Links
pub mod Chains
pub mod Turns
pub mod Apart
pub mod Own
pub mod Crowds
pub mod Search
