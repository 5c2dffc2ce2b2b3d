use Rattle.std.proofs.Common.{◌≡◌, map, take}
use Rattle.si_netlist.specs.Loops.Parts.{gate_seen}
use Rattle.si_from_equations.proofs.started.copied_gates.Given as goal

abbrev pub invariant-loop-gate : goal.invariant-loop-gate
invariant-loop-gate l = map gate_seen l.copies.items ≡ map gate_seen (take l.gate-index l.gates)
