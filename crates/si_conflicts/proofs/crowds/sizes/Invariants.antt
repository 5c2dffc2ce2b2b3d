use Rattle.std.proofs.Common.{◌≡◌, ℕ, take}
use Rattle.std.specs.BTreeMap.{get}
use Rattle.std.specs.Map.{count_at}
use Rattle.std.specs.Ordering.{nat_cmp}
use Rattle.si_conflicts.specs.Loops.Crowds.{code_count}
use Rattle.si_conflicts.proofs.crowds.sizes.Given as goal

abbrev pub invariant-loop-m : goal.invariant-loop-m
invariant-loop-m l = (q : ℕ) → count_at (get nat_cmp l.sizes) q ≡ code_count (take l.m-index l.members) q
