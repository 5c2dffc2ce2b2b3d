use Rattle.si_finder.specs.Loops.Steps.{IsFoundTo}
use Rattle.si_finder.proofs.step.with_all.Given as goal

abbrev pub invariant-loop-z : goal.invariant-loop-z
invariant-loop-z l = IsFoundTo l.fn.graph l.netlist l.z l.lineage
