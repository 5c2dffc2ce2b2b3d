use Rattle.si_joins.proofs.JoinLemmas.{joined_pass}
use Rattle.si_joins.proofs.laws.joined_netlists_pass.Goals as goal

pub returns : goal.returns
returns c = joined_pass
