use Rattle.si_lint.proofs.UnusedLemmas.{SwitchedTo}
use Rattle.si_lint.proofs.unused.switched.Given as goal

abbrev pub invariant-loop-arc : goal.invariant-loop-arc
invariant-loop-arc l = SwitchedTo l.arcs l.arc-index l.switched
