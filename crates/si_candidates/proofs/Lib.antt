pub mod BlockDecisions
pub mod PartLaws
pub mod LawfulParts
pub mod BlockingLemmas
pub mod BlockCopyCount
mod BlockStates
mod EarlierLemmas
mod MaySwitchArcs
mod MaySwitchWords
mod PartLemmas
mod BlockExamples
mod PartExamples
pub mod BlockSameSets
pub mod BlockMarks
pub mod IntervalLemmas
pub mod IntervalsExist
pub mod BlockLists
pub mod BlocksExist
pub mod AddingLemmas
mod AskLemmas
pub mod ClassesExist
pub mod ClassesDecided
pub mod TreeLemmas
pub mod SideLemmas
mod SideWords
mod ManySideLemmas
pub mod SideClassLemmas
mod SideExamples
