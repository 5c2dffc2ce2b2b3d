use Rattle.si_conflicts.proofs.LeftCount.{one_left, some_left}
use Rattle.si_conflicts.proofs.CrowdLemmas.{crowd_is_left}
use Rattle.si_conflicts.proofs.laws.conflicts_are_left.Goals as goal

pub returns-clause-unique : goal.returns-clause-unique
returns-clause-unique c d classes n m is lawful a b = one_left d is classes lawful n m a b

pub returns-clause-exists : goal.returns-clause-exists
returns-clause-exists c d classes is lawful = some_left d is classes lawful

pub returns-clause-crowd : goal.returns-clause-crowd
returns-clause-crowd c = crowd_is_left
