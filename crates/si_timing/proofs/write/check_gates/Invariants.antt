use Rattle.si_timing.proofs.Decisions.{AreBefore}
use Rattle.si_timing.proofs.write.check_gates.Given as goal

abbrev pub invariant-loop-z : goal.invariant-loop-z
invariant-loop-z l = AreBefore l.library l.netlist l.z
