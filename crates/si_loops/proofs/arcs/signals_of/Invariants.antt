use Rattle.std.proofs.Common.{take}
use Rattle.si_netlist.specs.Reads.{MarksExactly}
use Rattle.si_loops.specs.Arcs.{has_literal}
use Rattle.si_loops.proofs.arcs.signals_of.Given as goal

abbrev pub invariant-loop-literal : goal.invariant-loop-literal
invariant-loop-literal l = MarksExactly (has_literal (take l.literal-index l.literals)) l.signals
