use Rattle.std.proofs.Common.{◌≡◌, ℕ, ◌+◌, ◌<◌, length, get_or}
use Rattle.si_base.specs.Codes.{code}
use Rattle.si_divisor.proofs.forced.columns_at.Given as goal

abbrev pub invariant-loop-i : goal.invariant-loop-i
invariant-loop-i l = record {
  size : length l.rows ≡ 128;
  each : (j : ℕ) → j < l.i → get_or l.rows j 0 ≡ code l.coded (l.first + j);
}
