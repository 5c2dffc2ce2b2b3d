use Rattle.std.proofs.Common.{◌≡◌, ◌<◌, ◌↔◌, ℕ, true, false, length, slice_index_or}
use Rattle.si_candidates.specs.Blocks.{block_at}
use Rattle.si_resolve.specs.Loops.Usable.{IsUsable}
use Rattle.si_resolve.proofs.block_list.usable_ones.Given as goal

abbrev pub invariant-loop-k : goal.invariant-loop-k
invariant-loop-k l = record {
  count : length l.usable.items ≡ l.k;
  each : (k : ℕ) → k < l.k
      → (slice_index_or l.usable.items k false ≡ true) ↔ IsUsable l.graph.graph (block_at l.blocks k);
}
