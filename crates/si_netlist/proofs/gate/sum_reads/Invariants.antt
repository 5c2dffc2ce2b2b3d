use Rattle.std.proofs.Common.{take}
use Rattle.si_netlist.specs.Reads.{sum_reads, MarksExactly}
use Rattle.si_netlist.proofs.gate.sum_reads.Given as goal

abbrev pub invariant-loop-cube : goal.invariant-loop-cube
invariant-loop-cube l = MarksExactly (sum_reads (take l.cube-index l.cube-items)) l.signals
