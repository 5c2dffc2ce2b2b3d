use Rattle.std.proofs.Common.{◌≡◌, ℕ, ◌<◌, slice_index, bit_or}
use Rattle.si_base.proofs.sets.are_within.Given as goal

abbrev pub invariant-loop-k : goal.invariant-loop-k
invariant-loop-k l = (j : ℕ) → j < l.k → bit_or (slice_index l.words j) (slice_index l.others j)
    ≡ slice_index l.others j
