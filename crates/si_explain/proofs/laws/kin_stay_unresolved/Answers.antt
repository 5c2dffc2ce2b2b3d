use Rattle.si_explain.proofs.ExplainUnresolved.{kin_are_told, kin_never_resolve, kin_end_unresolved}
use Rattle.si_explain.proofs.laws.kin_stay_unresolved.Goals as goal

pub returns-clause-told : goal.returns-clause-told
returns-clause-told c = kin_are_told

pub returns-clause-never : goal.returns-clause-never
returns-clause-never c = kin_never_resolve

pub returns-clause-ends : goal.returns-clause-ends
returns-clause-ends c = kin_end_unresolved
