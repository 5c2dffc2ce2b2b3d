use Rattle.si_system.proofs.OutcomeExists.{some_outcome}
use Rattle.si_system.proofs.laws.outcomes_exist.Goals as goal

pub returns : goal.returns
returns c = some_outcome
