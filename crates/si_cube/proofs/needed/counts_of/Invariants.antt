use Rattle.std.proofs.Common.{◌≡◌, map, take}
use Rattle.si_cube.proofs.NeededCounts.{count}
use Rattle.si_cube.proofs.needed.counts_of.Given as goal

abbrev pub invariant-loop-code : goal.invariant-loop-code
invariant-loop-code l = l.counts.items ≡ map (count l.cubes) (take l.code-index l.required)
