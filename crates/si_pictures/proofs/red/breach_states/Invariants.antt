use Rattle.std.proofs.Common.{◌≡◌, ◌≤◌, ℕ, ◌<◌, false, length, get_or}
use Rattle.si_pictures.specs.Seen.{is_breach_state}
use Rattle.si_pictures.proofs.red.breach_states.Given as goal

abbrev pub invariant-loop-k : goal.invariant-loop-k
invariant-loop-k l = record {
  most : l.k ≤ l.states;
  count : length l.marks.items ≡ l.k;
  each : (s : ℕ) → s < l.k → get_or l.marks.items s false ≡ is_breach_state l.breach s;
}
