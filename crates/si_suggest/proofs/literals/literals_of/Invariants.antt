use Rattle.std.proofs.Common.{◌≡◌, take}
use Rattle.std.specs.List.{sum_by}
use Rattle.si_netlist.specs.Loops.Parts.{gate_seen}
use Rattle.si_suggest.specs.Literals.{gate_literals}
use Rattle.si_suggest.proofs.literals.literals_of.Given as goal

abbrev pub invariant-loop-gate : goal.invariant-loop-gate
invariant-loop-gate l = l.count ≡ sum_by (λ g. gate_literals (gate_seen g)) (take l.gate-index l.gates)
