use Rattle.std.proofs.Common.{◌≡◌, ◌-◌, [], map}
use Rattle.si_verilog_reader.specs.Modules.{cells_at}
use Rattle.si_verilog_reader.specs.Loops.Held.{cell_now}
use Rattle.si_verilog_reader.proofs.cells.read_cells.Given as goal

abbrev pub invariant-loop : goal.invariant-loop
invariant-loop l =
    cells_at (l.count - l.counter) (map cell_now l.cells.items) l.source ≡ cells_at l.count [] l.fn.source
