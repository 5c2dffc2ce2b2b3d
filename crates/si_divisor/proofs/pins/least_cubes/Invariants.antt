use Rattle.std.proofs.Common.{take}
use Rattle.si_checks.specs.Loops.Lent.{coded_of}
use Rattle.si_divisor.specs.Loops.PinTests.{AreCubesFor}
use Rattle.si_divisor.proofs.pins.least_cubes.Given as goal

abbrev pub invariant-loop-region : goal.invariant-loop-region
invariant-loop-region l = AreCubesFor (coded_of l.graph) l.z (take l.region-index l.region-items) l.cubes.items
