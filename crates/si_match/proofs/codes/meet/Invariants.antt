use Rattle.std.proofs.Common.{ℕ, ◌<◌, get_or, Contains}
use Rattle.si_match.proofs.codes.meet.Given as goal

abbrev pub invariant-loop-code : goal.invariant-loop-code
invariant-loop-code l = (j : ℕ) → j < l.code-index → Contains l.other (get_or l.one j 0) → ⊥
