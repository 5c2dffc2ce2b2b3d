use Rattle.std.proofs.Common.{◌≡◌, ◌++◌, drop, length, map, vec_items}
use Rattle.si_circuit.specs.Gates.{gates_from}
use Rattle.si_joins.specs.Gates.{joined_gate}
use Rattle.si_netlist.specs.Loops.Parts.{gate_seen}
use Rattle.si_joins.proofs.netlist.joined_gates.Given as goal

abbrev pub invariant-loop-z : goal.invariant-loop-z
invariant-loop-z l =
    let signals = l.graph.signals in
    let gate = joined_gate (length signals) l.parts (map vec_items l.tos) in
    map gate_seen l.gates.items ++ gates_from gate l.z (drop l.z signals) ≡ gates_from gate 0 signals
