use Rattle.std.proofs.Common.{ℕ, ◌<◌, get_or}
use Rattle.si_bounds.specs.Loops.Needs.{AsksLess}
use Rattle.si_bounds.specs.declared.needs.Need.{Need}
use Rattle.si_bounds.proofs.needs.is_beaten.Given as goal

abbrev pub invariant-loop-other : goal.invariant-loop-other
invariant-loop-other l = (k : ℕ) (d : Need) → k < l.other-index → AsksLess (get_or l.needs k d) l.need → ⊥
