-- What the parts of a computation keep: for the proofs of the code, and in no promise of a run.
pub mod ByLength
pub mod Held
pub mod Names
pub mod Pieces
pub mod Regions
