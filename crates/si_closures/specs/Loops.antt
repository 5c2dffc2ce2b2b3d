-- What the parts of a computation keep: for the proofs of the code, and in no promise of a run.
pub mod Rows
pub mod Turned
pub mod WordSearch
pub mod Words
