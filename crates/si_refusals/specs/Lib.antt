pub mod Refusal
pub mod Stages
pub mod Ending
pub mod ExitStatus
pub mod Rejection
pub mod Uncomposed
