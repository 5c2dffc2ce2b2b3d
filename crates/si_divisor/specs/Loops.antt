-- What the parts of a computation keep: for the proofs of the code, and in no promise of a run.
pub mod PinTests
pub mod Completions
pub mod Columns
pub mod ManyFunctions
pub mod SwitchRules
pub mod ManySwitching
