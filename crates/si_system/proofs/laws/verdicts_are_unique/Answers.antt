use Rattle.si_system.proofs.UniqueOutcome.{one_verdict}
use Rattle.si_system.proofs.laws.verdicts_are_unique.Goals as goal

pub returns : goal.returns
returns c = one_verdict
