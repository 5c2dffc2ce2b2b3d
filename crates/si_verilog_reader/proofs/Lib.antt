mod LexExamples
mod ReadExamples
mod CommentExamples
mod KeywordLemmas
mod PieceLemmas
pub mod PlacedLemmas
pub mod CommentLemmas
pub mod PartLemmas
pub mod PortLemmas
pub mod LoopLemmas
pub mod WholeLemmas
pub mod InstanceLemmas
pub mod CellLemmas
pub mod ExpressionLemmas
pub mod GateLemmas
pub mod HeadLemmas
pub mod CircuitLemmas
pub mod AssignLemmas
pub mod CountLemmas
pub mod NetlistNames
pub mod ValueLemmas
pub mod BackLemmas
