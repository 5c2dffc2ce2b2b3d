use Rattle.std.proofs.Common.{◌≡◌, take}
use Rattle.si_cell.proofs.pin_sum.PinSum.widened.Given as goal

abbrev pub invariant-loop-cube : goal.invariant-loop-cube
invariant-loop-cube l = l.cubes.items ≡ take l.cube-index l.self
