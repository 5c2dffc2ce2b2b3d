use Rattle.si_checks.proofs.ConflictsDecided.{conflict_or_none}
use Rattle.si_checks.proofs.laws.conflicts_have_a_first.Goals as goal

pub returns : goal.returns
returns c = conflict_or_none
