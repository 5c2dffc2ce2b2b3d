use Rattle.std.proofs.Common.{◌≡◌, take}
use Rattle.si_joins.specs.Gates.{renamed_sum}
use Rattle.si_joins.proofs.cubes.renamed_sum.Given as goal

abbrev pub invariant-loop-cube : goal.invariant-loop-cube
invariant-loop-cube l = l.cubes.items ≡ renamed_sum l.to l.n (take l.cube-index l.sum)
