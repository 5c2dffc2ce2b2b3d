use Rattle.std.proofs.Common.{◌≡◌, ℕ, ◌<◌, length, get_or}
use Rattle.si_candidates.proofs.intervals.forget_all.Given as goal

abbrev pub invariant-loop-s : goal.invariant-loop-s
invariant-loop-s l = record {
  none : (t : ℕ) → t < l.s → get_or l.words t 0 ≡ 0;
  size : length l.words ≡ length l.initial.words;
}
