use Rattle.std.proofs.Common.{◌≡◌, length}
use Rattle.si_genlib.specs.Expression.{start}
use Rattle.si_equations_reader.specs.Loops.Machine.{state_now}
use Rattle.si_verilog_reader.specs.Expressions.{expression_from}
use Rattle.si_verilog_reader.specs.Loops.Names.{fault_of}
use Rattle.si_verilog_reader.proofs.expression.read_expression.Given as goal

abbrev pub invariant-loop-placed : goal.invariant-loop-placed
invariant-loop-placed l = expression_from (fault_of l.allowed) (state_now l.reading) l.source
    ≡ expression_from (fault_of l.allowed) start l.fn.source

abbrev pub decreases-loop-placed : goal.decreases-loop-placed
decreases-loop-placed l = length l.source
