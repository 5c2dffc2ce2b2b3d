pub mod CompletionLemmas
pub mod DivisorLemmas
pub mod PinLemmas
pub mod PinRegionCubes
pub mod PinCubesExist
pub mod DivisorChoices
mod DivisorExamples
mod FunctionExamples
mod ManyFunctionExamples
mod ManySwitchingExamples
pub mod TargetSets
pub mod ClassCases
pub mod SwitchingRules
pub mod PartitionLemmas
pub mod OnePartitionFor
pub mod SwitchRuleLemmas
pub mod SettlingLemmas
pub mod SwitchTurns
pub mod SwitchLoops
pub mod SameForced
pub mod PartitionForAnswers
pub mod FirstWords
pub mod FunctionLemmas
mod ColumnLemmas
mod ForcedLemmas
pub mod SameFunction
pub mod SwitchingOutside
pub mod ManyFunctionLemmas
pub mod InstanceLaws
pub mod DivisorsExist
pub mod TargetLeastExists
pub mod PartitionExists
mod SwitchingTests
mod Examples
