mod StepLemmas
mod SplitLemmas
mod ForkLemmas
mod LossLemmas
mod JumpLemmas
mod ClashLemmas
pub mod BreachTexts
mod ClashValues
mod FirstTold
mod BreachLines
mod Examples
