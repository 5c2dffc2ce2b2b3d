use Rattle.std.proofs.Common.{◌≡◌, ℕ, ◌<◌, ◌≤◌, length, slice_index, bit_or}
use Rattle.si_audit.proofs.column.join.Given as goal

abbrev pub invariant-loop-k : goal.invariant-loop-k
invariant-loop-k l = (length l.words ≡ length l.initial.words)
    × ((j : ℕ) → j < l.k → slice_index l.words j ≡ bit_or (slice_index l.initial.words j) (slice_index l.others j))
    × ((j : ℕ) → l.k ≤ j → slice_index l.words j ≡ slice_index l.initial.words j)
