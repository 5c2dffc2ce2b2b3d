use Rattle.std.proofs.Common.{ℕ, ◌<◌}
use Rattle.si_base.specs.Sets.{IsIn}
use Rattle.si_finder.proofs.next.first_in_both.Given as goal

abbrev pub invariant-loop-k : goal.invariant-loop-k
invariant-loop-k l = (s : ℕ) → s < l.k → IsIn l.one s → IsIn l.other s → ⊥
