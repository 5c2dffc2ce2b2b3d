use Rattle.std.proofs.Common.{◌≡◌, ◌<◌, ℕ, length, slice_index}
use Rattle.si_graph.specs.Loops.Starts.{AreBelow, IsStart}
use Rattle.si_graph.proofs.arc_store.starts_of.Given as goal

abbrev pub invariant-loop-s : goal.invariant-loop-s
invariant-loop-s l = record {
  count : length l.starts.items ≡ l.s;
  each : (t : ℕ) → t < l.s → IsStart l.arcs t (slice_index l.starts.items t);
  below : AreBelow l.arcs l.s l.start;
}
