use Rattle.std.proofs.Common.{◌≡◌}
use Rattle.si_joins.specs.Gates.{literal_at}
use Rattle.si_joins.proofs.CubeLemmas.{rest_at}
use Rattle.si_joins.proofs.cubes.literal_at.Given as goal

abbrev pub invariant-loop-z : goal.invariant-loop-z
invariant-loop-z l = rest_at l.to l.k l.z l.cube-inside.care l.cube-inside.value ≡ literal_at l.to l.cube l.k
