use Rattle.std.proofs.Common.{◌≡◌, drop}
use Rattle.si_joins.specs.Gates.{driven_at}
use Rattle.si_joins.proofs.gates.driven_at.Given as goal

abbrev pub invariant-loop-z : goal.invariant-loop-z
invariant-loop-z l = driven_at l.k l.z (drop l.z l.signals) (drop l.z l.to) ≡ driven_at l.k 0 l.signals l.to
