use Rattle.std.proofs.Common.{◌≡◌, take}
use Rattle.si_cell.proofs.pin_sum.PinSum.of.Given as goal

abbrev pub invariant-loop-cube : goal.invariant-loop-cube
invariant-loop-cube l = l.made ≡ take l.cube-index l.sum
