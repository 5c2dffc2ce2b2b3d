use Rattle.std.proofs.Common.{◌≡◌, ℕ, ◌<◌, true}
use Rattle.si_base.specs.Bits.{bit}
use Rattle.si_settled.proofs.marks.has_all.Given as goal

abbrev pub invariant-loop-z : goal.invariant-loop-z
invariant-loop-z l = (k : ℕ) → k < l.z → bit l.code k ≡ true
