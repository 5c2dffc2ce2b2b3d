pub mod LiteralCounts
pub mod ExerciseLemmas
pub mod Examples
