use Rattle.si_explain.proofs.ExplainUnresolved.{twins_are_told, twins_never_resolve, twins_end_unresolved}
use Rattle.si_explain.proofs.laws.twins_stay_unresolved.Goals as goal

pub returns-clause-told : goal.returns-clause-told
returns-clause-told c = twins_are_told

pub returns-clause-never : goal.returns-clause-never
returns-clause-never c = twins_never_resolve

pub returns-clause-ends : goal.returns-clause-ends
returns-clause-ends c = twins_end_unresolved
