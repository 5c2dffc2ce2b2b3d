use Rattle.si_checks.specs.Loops.Lent.{coded_of}
use Rattle.si_bounds.specs.Loops.Bounds.{AreKnown}
use Rattle.si_bounds.proofs.bounds.Bounds.of.Given as goal

abbrev pub invariant-loop-i : goal.invariant-loop-i
invariant-loop-i l = AreKnown (coded_of l.fn.graph) l.library l.i l.unfit.items
