use Rattle.std.proofs.Common.{◌≡◌, ◌≤◌, ℕ, ◌<◌, length, get_or, unwrap_or}
use Rattle.std.specs.BTreeMap.{get}
use Rattle.std.specs.Ordering.{nat_cmp}
use Rattle.si_base.specs.Codes.{code}
use Rattle.si_pictures.proofs.conflict_states.representatives.Given as goal

abbrev pub invariant-loop-k : goal.invariant-loop-k
invariant-loop-k l = record {
  most : l.k ≤ l.graph.graph.states;
  count : length l.chosen.items ≡ l.k;
  each : (s : ℕ) → s < l.k → get_or l.chosen.items s 0 ≡ unwrap_or (get nat_cmp l.lasts (code l.graph s)) 0;
}
