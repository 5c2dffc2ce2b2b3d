use Rattle.std.proofs.Common.{ℕ, ◌<◌}
use Rattle.si_divisor.specs.Targets.{SettlesAtBoth}
use Rattle.si_divisor.proofs.settled.first_settled_at_both.Given as goal

abbrev pub invariant-loop-s : goal.invariant-loop-s
invariant-loop-s l = (t : ℕ) → t < l.s → SettlesAtBoth l.ones l.zeros t → ⊥
