mod UnusedLemmas
mod DeadLemmas
mod OneWayLemmas
mod WithdrawalLemmas
mod SameCodeLemmas
mod MergedLemmas
mod UnresolvableLemmas
pub mod LintTexts
mod LineLemmas
mod TextLemmas
mod Examples
