use Rattle.std.proofs.Common.{◌≡◌, take}
use Rattle.si_cell.specs.Expanded.{placed_sum, sources}
use Rattle.si_cell.specs.Library.{cell_at}
use Rattle.si_cell.proofs.expand.expand.Given as goal

abbrev pub invariant-loop-cube : goal.invariant-loop-cube
invariant-loop-cube l = l.cubes.items ≡ placed_sum (sources l.instance.literals l.fn.z) (take l.cube-index
    (cell_at l.library l.instance.cell).sum)
