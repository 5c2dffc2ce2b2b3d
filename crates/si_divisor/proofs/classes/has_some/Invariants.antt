use Rattle.std.proofs.Common.{ℕ, ◌<◌}
use Rattle.si_base.specs.Sets.{IsIn}
use Rattle.si_divisor.proofs.classes.has_some.Given as goal

abbrev pub invariant-loop-s : goal.invariant-loop-s
invariant-loop-s l = (t : ℕ) → t < l.s → IsIn l.set t → ⊥
