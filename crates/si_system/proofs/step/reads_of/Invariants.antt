use Rattle.si_system.proofs.ReadLemmas.{AreFilled}
use Rattle.si_system.proofs.step.reads_of.Given as goal

abbrev pub invariant-loop-k : goal.invariant-loop-k
invariant-loop-k l = AreFilled l.netlist l.k l.reads
