use Rattle.std.proofs.Common.{◌≡◌, ◌++◌, map, drop}
use Rattle.si_checks.specs.Loops.Lent.{coded_of}
use Rattle.si_netlist.specs.Loops.Parts.{gate_seen}
use Rattle.si_circuit.specs.Gates.{gate_of, gates_from}
use Rattle.si_circuit.proofs.gates.gates_of.Given as goal

abbrev pub invariant-loop-i : goal.invariant-loop-i
invariant-loop-i l =
    let gate = gate_of l.style (coded_of l.fn.graph) in
    let signals = (coded_of l.fn.graph).graph.signals in
    map gate_seen l.gates.items ++ gates_from gate l.i (drop l.i signals) ≡ gates_from gate 0 signals
