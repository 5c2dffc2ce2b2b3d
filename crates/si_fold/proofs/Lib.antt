pub mod FoldedQuotient
pub mod SameBehaviour
pub mod AlikeLemmas
pub mod FoldLemmas
pub mod FoldedBehaviour
pub mod UniqueFolded
mod PartitionMarks
mod PartitionRoom
mod PartitionSplits
mod PartitionSplitParts
mod PartitionMembers
mod RefinementLoop
mod RefinementLemmas
mod EventLemmas
mod NumberLemmas
mod NumberedClasses
pub mod FoldedGraph
pub mod FoldedFewerArcs
mod FoldedSmallest
mod NumberSearch
mod RefinedCoarsest
pub mod FoldedExists
mod Examples
