use Rattle.std.proofs.Common.{◌≡◌, ◌<◌, ℕ, true, false, length, map, slice_index_or}
use Rattle.si_candidates.specs.Blocks.{block_at}
use Rattle.si_conflicts.specs.Conflicts.{pairs_of}
use Rattle.si_resolve.specs.Loops.Aspects.{aspect_of, column_at}
use Rattle.si_resolve.proofs.block_list.columns_of_usable.Given as goal

abbrev pub invariant-loop-k : goal.invariant-loop-k
invariant-loop-k l = record {
  count : length l.list.items ≡ l.k;
  each : (k : ℕ) → k < l.k → slice_index_or l.usable k false ≡ true
      → column_at l.list.items k ≡ map (aspect_of (block_at l.blocks k) (block_at l.sides k)) (pairs_of l.pairs);
}
