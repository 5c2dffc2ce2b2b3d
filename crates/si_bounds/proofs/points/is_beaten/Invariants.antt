use Rattle.std.proofs.Common.{ℕ, ◌<◌, get_or}
use Rattle.si_bounds.specs.Loops.Points.{MissesLess}
use Rattle.si_bounds.specs.declared.points.Missed.{Missed}
use Rattle.si_bounds.proofs.points.is_beaten.Given as goal

abbrev pub invariant-loop-less : goal.invariant-loop-less
invariant-loop-less l = (k : ℕ) (d : Missed) → k < l.less-index → MissesLess (get_or l.least k d) l.missed → ⊥
