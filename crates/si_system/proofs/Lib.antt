pub mod GivenLemmas
pub mod DifferenceLemmas
pub mod StepLemmas
pub mod ReadLemmas
pub mod OutcomeLemmas
pub mod ScheduleLemmas
pub mod UniqueOutcome
pub mod OutcomeExists
