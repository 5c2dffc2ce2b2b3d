-- What the parts of a computation keep: for the proofs of the code, and in no promise of a run.
pub mod Asked
pub mod Adding
pub mod ManySets
pub mod Earlier
pub mod Tree
pub mod Sides
