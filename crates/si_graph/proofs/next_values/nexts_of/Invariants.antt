use Rattle.std.proofs.Common.{◌≡◌, ◌<◌, ℕ, length, slice_index}
use Rattle.si_graph.specs.NextCodes.{IsNextCode}
use Rattle.si_graph.proofs.next_values.nexts_of.Given as goal

abbrev pub invariant-loop-s : goal.invariant-loop-s
invariant-loop-s l = record {
  count : length l.nexts.items ≡ l.s;
  each : (t : ℕ) → t < l.s → IsNextCode (record { graph = l.graph; codes = l.codes }) t (slice_index l.nexts.items t);
}
