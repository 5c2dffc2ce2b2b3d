use Rattle.std.proofs.Common.{ℕ}
use Rattle.std.specs.BTreeMap.{get}
use Rattle.std.specs.Ordering.{nat_cmp}
use Rattle.si_base.specs.Proper.{pair_place}
use Rattle.si_checks.specs.Loops.Searches.{IsFirstOrNone}
use Rattle.si_checks.proofs.ConflictLemmas.{IsFirstOfCodeBelow, IsConflictBelow}
use Rattle.si_checks.proofs.conflicts.first_conflict.Given as goal

abbrev pub invariant-loop-s : goal.invariant-loop-s
invariant-loop-s l = record {
  firsts : (k : ℕ) → IsFirstOfCodeBelow l.coded l.s k (get nat_cmp l.firsts k);
  found : IsFirstOrNone pair_place (IsConflictBelow l.coded l.s) l.found;
}
