use Rattle.si_checks.specs.Loops.Lent.{coded_of}
use Rattle.si_map.proofs.SearchFitted.{AreFittedBefore}
use Rattle.si_map.proofs.fitted.fitted_signals.Given as goal

abbrev pub invariant-loop-i : goal.invariant-loop-i
invariant-loop-i l = AreFittedBefore (coded_of l.fn.graph) l.library l.i l.fitted
