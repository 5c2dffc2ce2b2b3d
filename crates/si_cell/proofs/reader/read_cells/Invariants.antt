use Rattle.std.proofs.Common.{◌≡◌, [], length}
use Rattle.si_cell.specs.Library.{AreCells}
use Rattle.si_words.specs.Ends.{after_last}
use Rattle.si_cell.specs.LibraryText.{cell_lines_fault, cells_in}
use Rattle.si_cell.proofs.reader.read_cells.Given as goal

abbrev pub invariant-loop-line : goal.invariant-loop-line
invariant-loop-line l = record {
  fault : cell_lines_fault (after_last l.text) l.cells.items l.lines ≡ cell_lines_fault
      (after_last l.text) [] l.fn.lines;
  cells_are : cells_in l.cells.items l.lines ≡ cells_in [] l.fn.lines;
  cells : AreCells l.cells.items;
}

abbrev pub decreases-loop-line : goal.decreases-loop-line
decreases-loop-line l = length l.lines
