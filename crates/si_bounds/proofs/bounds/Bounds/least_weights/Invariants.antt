use Rattle.si_bounds.specs.Loops.Bounds.{Tell}
use Rattle.si_bounds.proofs.bounds.Bounds.least_weights.Given as goal

abbrev pub invariant-loop-i : goal.invariant-loop-i
invariant-loop-i l = Tell l.high l.low l.waiting l.self.unfit.items l.i l.least.items
