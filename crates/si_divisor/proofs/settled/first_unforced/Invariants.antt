use Rattle.std.proofs.Common.{ℕ, ◌<◌}
use Rattle.si_divisor.specs.Targets.{IsUnforced}
use Rattle.si_divisor.proofs.settled.first_unforced.Given as goal

abbrev pub invariant-loop-s : goal.invariant-loop-s
invariant-loop-s l = (t : ℕ) → t < l.s → IsUnforced l.graph l.ones l.zeros t → ⊥
