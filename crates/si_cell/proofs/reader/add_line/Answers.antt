use Rattle.std.proofs.Common.{sym, subst}
use Rattle.si_cell.specs.Library.{AreCells}
use Rattle.si_cell.proofs.CellLemmas.{more_cells}
use Rattle.si_cell.proofs.reader.add_line.Goals as goal

pub returns-clause-cells : goal.returns-clause-cells
returns-clause-cells c = subst AreCells (sym c.in_ok-push.ensures.items) (more_cells c.args.cells.now.items
    c.in_ok-cell.cell c.requires c.in_ok-cell.ensures.cell (rw c.deref.ensures.value at c.in_ok-cell.ensures.new)
    (rw c.deref.ensures.value at c.in_ok-cell.ensures.room))
