use Rattle.std.proofs.Common.{◌≡◌, length, map}
use Rattle.si_equations_reader.specs.Held.{AreCounted, progress_now}
use Rattle.si_verilog_reader.specs.Loops.Held.{cell_now}
use Rattle.si_verilog_reader.specs.Modules.{item_at}
use Rattle.si_verilog_reader.specs.Parts.{all_parts}
use Rattle.si_verilog_reader.proofs.items.read_items.Given as goal

abbrev pub invariant-loop-circuit : goal.invariant-loop-circuit
invariant-loop-circuit l = record {
  items : all_parts (item_at (map cell_now l.cells)) (progress_now l.circuit) l.source
      ≡ all_parts (item_at (map cell_now l.cells)) (progress_now l.fn.circuit) l.fn.source;
  counted : AreCounted l.circuit;
}

abbrev pub decreases-loop-circuit : goal.decreases-loop-circuit
decreases-loop-circuit l = length l.source
