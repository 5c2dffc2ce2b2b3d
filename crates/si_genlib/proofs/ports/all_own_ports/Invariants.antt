use Rattle.std.proofs.Common.{◌≡◌, map, take}
use Rattle.si_genlib.specs.Ports.{own_ports}
use Rattle.si_genlib.proofs.ports.all_own_ports.Given as goal

abbrev pub invariant-loop-cell : goal.invariant-loop-cell
invariant-loop-cell l = l.ports.items ≡ map own_ports (take l.cell-index l.cells)
