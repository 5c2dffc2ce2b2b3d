use Rattle.std.proofs.Common.{◌≡◌, ◌≤◌, ℕ, ◌<◌, length}
use Rattle.si_conflicts.specs.Loops.Keys.{IsKey, key_at}
use Rattle.si_conflicts.proofs.keys.keys.Given as goal

abbrev pub invariant-loop-k : goal.invariant-loop-k
invariant-loop-k l = record {
  count : length l.keys.items ≡ l.k;
  most : l.k ≤ l.coded.graph.states;
  each : (s : ℕ) → s < l.k → IsKey l.coded s (key_at l.keys.items s);
}
