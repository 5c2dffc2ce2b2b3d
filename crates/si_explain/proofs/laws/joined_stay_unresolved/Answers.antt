use Rattle.si_explain.proofs.ExplainUnresolved.{joined_never_resolve, joined_end_unresolved}
use Rattle.si_explain.proofs.laws.joined_stay_unresolved.Goals as goal

pub returns-clause-never : goal.returns-clause-never
returns-clause-never c = joined_never_resolve

pub returns-clause-ends : goal.returns-clause-ends
returns-clause-ends c = joined_end_unresolved
