pub mod CoveredGates
pub mod GateLemmas
pub mod CellLemmas
pub mod WireLemmas
pub mod Examples
pub mod SpellingDescents
pub mod SpellingWords
pub mod SpellingTraces
pub mod SpelledInsertions
pub mod CircuitLemmas
pub mod SpellingWord
pub mod SpellingMarks
pub mod SpellingTellsStates
pub mod InsertionWordsLemmas
mod SpelledExamples
