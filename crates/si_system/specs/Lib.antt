pub mod Lists
pub mod Verdict
pub mod Outcome
pub mod ScheduleText
pub mod Loops
