-- What the parts of a computation keep: for the proofs of the code, and in no promise of a run.
pub mod Reads
pub mod Tables
pub mod KnownArcs
pub mod Others
