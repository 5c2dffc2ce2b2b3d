pub mod FormLemmas
pub mod TailLemmas
pub mod FormMeets
pub mod CommandTasks
pub mod FormOverlap
pub mod ReadsLemmas
pub mod HelpLines
mod Examples
