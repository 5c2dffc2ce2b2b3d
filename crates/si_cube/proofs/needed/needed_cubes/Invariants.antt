use Rattle.si_cube.proofs.NeededCounts.{IsSifting}
use Rattle.si_cube.proofs.needed.needed_cubes.Given as goal

abbrev pub invariant-loop-cube : goal.invariant-loop-cube
invariant-loop-cube l = IsSifting l.required l.cubes l.cube-index l.kept.items l.counts.items
