use Rattle.std.proofs.Common.{◌≡◌, ◌<◌, ℕ, [], length, slice_index_or}
use Rattle.si_closures.specs.Loops.WordSearch.{column}
use Rattle.si_closures.proofs.columns.sets_of_words.Given as goal

abbrev pub invariant-loop-k : goal.invariant-loop-k
invariant-loop-k l = record {
  count : length l.sets.items ≡ l.k;
  each : (k : ℕ) → k < l.k → slice_index_or l.sets.items k [] ≡ column k l.words;
}
