use Rattle.std.proofs.Common.{◌≡◌, filter, take}
use Rattle.si_base.specs.Bits.{bit}
use Rattle.si_settled.proofs.forced.those_of.Given as goal

abbrev pub invariant-loop-z : goal.invariant-loop-z
invariant-loop-z l = l.those.items ≡ filter (bit l.code) (take l.z-index l.signals)
