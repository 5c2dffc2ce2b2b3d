use Rattle.si_conflicts.proofs.KeyLemmas.{ExcitedTo, IsDrivenArc}
use Rattle.si_conflicts.proofs.keys.excited.Given as goal

abbrev pub invariant-loop-arc : goal.invariant-loop-arc
invariant-loop-arc l = ExcitedTo (IsDrivenArc l.coded.graph) l.arcs l.arc-index l.excited
