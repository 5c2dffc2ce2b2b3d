use Rattle.std.proofs.Common.{◌≡◌, ◌++◌, map, drop}
use Rattle.si_checks.specs.Loops.Lent.{coded_of}
use Rattle.si_netlist.specs.Loops.Parts.{gate_seen}
use Rattle.si_circuit.specs.Cells.{cell_gate}
use Rattle.si_circuit.specs.Gates.{gates_from}
use Rattle.si_circuit.proofs.CellLemmas.{FitBefore}
use Rattle.si_circuit.proofs.cells.cell_gates.Given as goal

abbrev pub invariant-loop-i : goal.invariant-loop-i
invariant-loop-i l =
    let gate = cell_gate (coded_of l.fn.graph) l.fn.library in
    let signals = (coded_of l.fn.graph).graph.signals in
    (map gate_seen l.gates.items ++ gates_from gate l.i (drop l.i signals) ≡ gates_from gate 0 signals)
    × FitBefore (coded_of l.fn.graph) l.fn.library l.i
