use Rattle.si_conflicts.proofs.KeyLemmas.{ExcitedTo}
use Rattle.si_conflicts.proofs.ApartStayLemmas.{IsStayingArc}
use Rattle.si_conflicts.proofs.trial.staying.Given as goal

abbrev pub invariant-loop-arc : goal.invariant-loop-arc
invariant-loop-arc l = ExcitedTo (IsStayingArc l.graph l.classes) l.arc-items l.arc-index l.staying
