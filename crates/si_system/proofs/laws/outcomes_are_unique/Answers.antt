use Rattle.si_system.proofs.UniqueOutcome.{one_outcome}
use Rattle.si_system.proofs.laws.outcomes_are_unique.Goals as goal

pub returns : goal.returns
returns c = one_outcome
