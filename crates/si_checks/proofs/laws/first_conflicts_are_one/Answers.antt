use Rattle.si_checks.proofs.UniqueBreaches.{one_conflict}
use Rattle.si_checks.proofs.laws.first_conflicts_are_one.Goals as goal

pub returns : goal.returns
returns c = one_conflict
