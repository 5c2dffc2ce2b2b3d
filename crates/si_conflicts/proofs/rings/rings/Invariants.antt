use Rattle.std.proofs.Common.{◌≡◌, ℕ, ◌<◌, ◌≤◌, length, get_or}
use Rattle.si_conflicts.specs.Loops.Chains.{IsNextInRing}
use Rattle.si_conflicts.proofs.rings.rings.Given as goal

abbrev pub invariant-loop-k : goal.invariant-loop-k
invariant-loop-k l = record {
  most : l.k ≤ l.coded.graph.states;
  count : length l.next.items ≡ l.k;
  each : (s : ℕ) → s < l.k → IsNextInRing l.coded s (get_or l.next.items s 0);
}
