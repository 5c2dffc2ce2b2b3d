use Rattle.std.proofs.Common.{ℕ}
use Rattle.std.specs.BTreeMap.{get}
use Rattle.std.specs.Ordering.{nat_cmp}
use Rattle.si_conflicts.specs.Loops.Links.{IsFirstOfCode}
use Rattle.si_conflicts.proofs.rings.first_states.Given as goal

abbrev pub invariant-loop-s : goal.invariant-loop-s
invariant-loop-s l = (k : ℕ) → IsFirstOfCode l.coded l.s k (get nat_cmp l.firsts k)
