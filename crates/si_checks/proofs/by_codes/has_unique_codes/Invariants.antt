use Rattle.std.proofs.Common.{ℕ}
use Rattle.std.specs.BTreeMap.{get}
use Rattle.std.specs.Ordering.{nat_cmp}
use Rattle.si_checks.proofs.ByCodesLemmas.{HasUniqueBelow}
use Rattle.si_checks.proofs.ConflictLemmas.{IsFirstOfCodeBelow}
use Rattle.si_checks.proofs.by_codes.has_unique_codes.Given as goal

abbrev pub invariant-loop-s : goal.invariant-loop-s
invariant-loop-s l = record {
  firsts : (k : ℕ) → IsFirstOfCodeBelow l.coded l.s k (get nat_cmp l.firsts k);
  unique : HasUniqueBelow l.coded l.s;
}
