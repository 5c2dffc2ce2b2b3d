use Rattle.std.proofs.Common.{◌≡◌, ℕ, ◌<◌, length, get_or}
use Rattle.si_kin.proofs.forest.own_trees.Given as goal

abbrev pub invariant-loop-s : goal.invariant-loop-s
invariant-loop-s l = record {
  count : length l.parents.items ≡ l.s;
  own : (t : ℕ) → t < l.s → get_or l.parents.items t 0 ≡ t;
}
