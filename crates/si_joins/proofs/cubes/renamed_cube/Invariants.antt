use Rattle.si_joins.proofs.CubeLemmas.{IsMade}
use Rattle.si_joins.proofs.cubes.renamed_cube.Given as goal

abbrev pub invariant-loop-k : goal.invariant-loop-k
invariant-loop-k l = IsMade l.to l.cube l.k l.care l.value
