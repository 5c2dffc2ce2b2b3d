use Rattle.std.proofs.Common.{◌≡◌, ◌≤◌, ℕ, ◌<◌, ◌↔◌, false, length, get_or, IsTrue}
use Rattle.si_pictures.proofs.InConflictMarks.{MixedTo}
use Rattle.si_pictures.proofs.conflict_states.mixed_codes.Given as goal

abbrev pub invariant-loop-k : goal.invariant-loop-k
invariant-loop-k l = record {
  most : l.k ≤ l.graph.graph.states;
  count : length l.mixed.items ≡ l.graph.graph.states;
  each : (r : ℕ) → r < l.graph.graph.states → IsTrue (get_or l.mixed.items r false) ↔ MixedTo l.keys l.chosen l.k r;
}
