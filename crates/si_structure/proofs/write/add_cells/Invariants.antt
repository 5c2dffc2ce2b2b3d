use Rattle.std.proofs.Common.{◌≡◌, ◌++◌}
use Rattle.si_structure.proofs.PlacementWriting.{cells_left}
use Rattle.si_structure.proofs.write.add_cells.Given as goal

abbrev pub invariant-loop-cell : goal.invariant-loop-cell
invariant-loop-cell l = l.text ++ cells_left l.library l.netlist l.cell-items l.cell-index l.all_ports
    ≡ l.initial.text ++ cells_left l.library l.netlist l.cell-items 0 l.initial.all_ports
