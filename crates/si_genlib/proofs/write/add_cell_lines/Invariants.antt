use Rattle.std.proofs.Common.{◌≡◌, ◌++◌}
use Rattle.si_genlib.proofs.WritingLemmas.{cells_from}
use Rattle.si_genlib.proofs.write.add_cell_lines.Given as goal

abbrev pub invariant-loop-cell : goal.invariant-loop-cell
invariant-loop-cell l = l.text ++ cells_from l.cells l.cell-index ≡ l.initial.text ++ cells_from l.cells 0
