use Rattle.std.proofs.Common.{◌≡◌, ◌≤◌, ℕ, ◌<◌, false, length, get_or}
use Rattle.si_pictures.proofs.conflict_states.states_in_conflict.Given as goal

abbrev pub invariant-loop-k : goal.invariant-loop-k
invariant-loop-k l = record {
  most : l.k ≤ l.graph.graph.states;
  count : length l.marks.items ≡ l.k;
  each : (s : ℕ) → s < l.k → get_or l.marks.items s false ≡ get_or l.mixed.items (get_or l.chosen.items s 0) false;
}
