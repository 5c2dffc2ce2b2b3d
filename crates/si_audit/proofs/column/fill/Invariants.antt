use Rattle.std.proofs.Common.{◌≡◌, ℕ, ◌-◌, ◌^◌, ◌<◌, length, slice_index}
use Rattle.si_audit.proofs.column.fill.Given as goal

abbrev pub invariant-loop-k : goal.invariant-loop-k
invariant-loop-k l = (length l.words ≡ length l.initial.words)
    × ((j : ℕ) → j < l.k → slice_index l.words j ≡ 2 ^ 64 - 1)
