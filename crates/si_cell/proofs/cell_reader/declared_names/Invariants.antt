use Rattle.std.proofs.Common.{◌≡◌, ◌≤◌, [], length, take, drop, All}
use Rattle.si_base.specs.Faults.{first_after}
use Rattle.si_words.specs.Loops.Reads.{words_now}
use Rattle.si_cell.specs.CellWords.{pin_fault}
use Rattle.si_cell.specs.Library.{IsPinName}
use Rattle.si_cell.specs.Limits.{max_pins}
use Rattle.si_cell.proofs.cell_reader.declared_names.Given as goal

abbrev pub invariant-loop-pin : goal.invariant-loop-pin
invariant-loop-pin l = record {
  fault : first_after pin_fault l.names (drop l.pin-index (words_now l.pins)) ≡ first_after pin_fault []
      (words_now l.pins);
  value : l.names ≡ take l.pin-index (words_now l.pins);
  good : All IsPinName l.names;
  few : length l.names ≤ max_pins;
}
