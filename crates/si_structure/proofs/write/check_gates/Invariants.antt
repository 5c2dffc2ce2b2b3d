use Rattle.si_structure.proofs.NetlistDecisions.{AreBefore}
use Rattle.si_structure.proofs.write.check_gates.Given as goal

abbrev pub invariant-loop-z : goal.invariant-loop-z
invariant-loop-z l = AreBefore l.library l.complements l.netlist l.z
