use Rattle.std.proofs.Common.{◌≡◌, drop, map}
use Rattle.si_verilog_reader.specs.Modules.{cell_named}
use Rattle.si_verilog_reader.specs.Loops.Held.{cell_now}
use Rattle.si_verilog_reader.proofs.cells.cell_named.Given as goal

abbrev pub invariant-loop-cell : goal.invariant-loop-cell
invariant-loop-cell l = cell_named l.line (map cell_now (drop l.cell-index l.cells)) l.name
    ≡ cell_named l.line (map cell_now l.cells) l.name
