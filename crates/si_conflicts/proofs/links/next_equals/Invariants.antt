use Rattle.std.proofs.Common.{◌≡◌, ℕ, ◌+◌, ◌<◌, ◌≤◌, length, get_or, None}
use Rattle.std.specs.BTreeMap.{get}
use Rattle.std.specs.Ordering.{nat_cmp}
use Rattle.si_base.specs.Codes.{code}
use Rattle.si_conflicts.specs.Loops.Links.{IsFirstOfCode}
use Rattle.si_conflicts.proofs.links.next_equals.Given as goal

abbrev pub invariant-loop-s : goal.invariant-loop-s
invariant-loop-s l = record {
  size : length l.next.items ≡ l.coded.graph.states;
  firsts : (k : ℕ) → IsFirstOfCode l.coded l.s k (get nat_cmp l.firsts k);
  links : (j : ℕ) → l.s ≤ j → j < l.coded.graph.states
      → IsFirstOfCode l.coded (j + 1) (code l.coded j) (get_or l.next.items j None);
}
