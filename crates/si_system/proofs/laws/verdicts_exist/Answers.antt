use Rattle.si_system.proofs.OutcomeExists.{some_verdict}
use Rattle.si_system.proofs.laws.verdicts_exist.Goals as goal

pub returns : goal.returns
returns c = some_verdict
