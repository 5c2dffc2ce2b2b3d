-- What the parts of a computation keep: for the proofs of the code, and in no promise of a run.
pub mod Arcs
pub mod Chains
pub mod Ends
pub mod Groups
pub mod Starts
pub mod Changes
pub mod Values
pub mod Reach
pub mod Renaming
pub mod Search
