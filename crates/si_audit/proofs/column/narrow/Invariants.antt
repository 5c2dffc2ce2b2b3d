use Rattle.std.proofs.Common.{◌≡◌, ℕ, ◌<◌, ◌≤◌, length, slice_index, bit_and, bit_xor}
use Rattle.si_audit.proofs.column.narrow.Given as goal

abbrev pub invariant-loop-k : goal.invariant-loop-k
invariant-loop-k l = (length l.words ≡ length l.initial.words)
    × ((j : ℕ) → j < l.k
    → slice_index l.words j ≡ bit_and (slice_index l.initial.words j) (bit_xor (slice_index l.others j) l.turned))
    × ((j : ℕ) → l.k ≤ j → slice_index l.words j ≡ slice_index l.initial.words j)
