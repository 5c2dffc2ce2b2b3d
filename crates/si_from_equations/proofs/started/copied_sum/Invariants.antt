use Rattle.std.proofs.Common.{◌≡◌, take}
use Rattle.si_from_equations.proofs.started.copied_sum.Given as goal

abbrev pub invariant-loop-cube : goal.invariant-loop-cube
invariant-loop-cube l = l.cubes.items ≡ take l.cube-index l.cube-items
