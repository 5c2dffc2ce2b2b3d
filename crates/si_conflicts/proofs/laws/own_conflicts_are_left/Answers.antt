use Rattle.si_conflicts.proofs.OwnLeft.{left_by_sets}
use Rattle.si_conflicts.proofs.OwnNumbers.{own_exists, own_unique}
use Rattle.si_conflicts.proofs.laws.own_conflicts_are_left.Goals as goal

pub returns-clause-unique : goal.returns-clause-unique
returns-clause-unique c d members set a b one other = own_unique d.graph members set a b one other

pub returns-clause-exists : goal.returns-clause-exists
returns-clause-exists c = own_exists

pub returns-clause-sets : goal.returns-clause-sets
returns-clause-sets c = left_by_sets
