use Rattle.si_base.specs.Codes.{code, next_value}
use Rattle.si_base.specs.Netlist.{gate_value}
use Rattle.si_audit.specs.Loops.Columns.{Agree}
use Rattle.si_finder.proofs.unbuilt.first_wrong_state.Given as goal

abbrev pub invariant-loop-s : goal.invariant-loop-s
invariant-loop-s l = Agree l.s (λ s. gate_value l.netlist l.z (code l.coded s)) (λ s. next_value l.coded s l.z)
