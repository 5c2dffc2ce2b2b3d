use Rattle.si_joins.proofs.JoinLemmas.{join_one, join_some}
use Rattle.si_joins.proofs.laws.joins_are_one.Goals as goal

pub returns-clause-some : goal.returns-clause-some
returns-clause-some c = join_some

pub returns-clause-one : goal.returns-clause-one
returns-clause-one c = join_one
