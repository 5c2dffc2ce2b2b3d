use Rattle.std.proofs.Common.{◌<◌, ◌≤◌, ℕ, length, get_or}
use Rattle.si_cell.specs.Library.{no_cell}
use Rattle.si_cell.specs.Limits.{max_pins}
use Rattle.si_bounds.proofs.least.most_pins.Given as goal

abbrev pub invariant-loop-cell : goal.invariant-loop-cell
invariant-loop-cell l = record {
  few : (k : ℕ) → k < l.cell-index → length (get_or l.library.cells k no_cell).pins ≤ l.most;
  small : l.most ≤ max_pins;
}
