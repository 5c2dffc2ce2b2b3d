use Rattle.std.proofs.Common.{◌≡◌, length}
use Rattle.si_words.specs.Ends.{after_last}
use Rattle.si_cell.specs.LibraryText.{lines_fault, library_in}
use Rattle.si_cell.proofs.reader.read_name.Given as goal

abbrev pub invariant-loop-line : goal.invariant-loop-line
invariant-loop-line l = record {
  fault : lines_fault (after_last l.text) l.lines ≡ lines_fault (after_last l.text) l.fn.lines;
  library : library_in l.lines ≡ library_in l.fn.lines;
}

abbrev pub decreases-loop-line : goal.decreases-loop-line
decreases-loop-line l = length l.lines
