use Rattle.std.proofs.Common.{◌≡◌, ◌<◌, ℕ, true, false, length, slice_index_or}
use Rattle.si_candidates.specs.Blocks.{block_at}
use Rattle.si_candidates.specs.Loops.Sides.{AreSides}
use Rattle.si_resolve.proofs.block_list.sides_of_usable.Given as goal

abbrev pub invariant-loop-k : goal.invariant-loop-k
invariant-loop-k l = record {
  count : length l.list.items ≡ l.k;
  each : (k : ℕ) → k < l.k → slice_index_or l.usable k false ≡ true
      → AreSides l.graph.graph l.tree (block_at l.blocks k) (block_at l.list.items k);
}
