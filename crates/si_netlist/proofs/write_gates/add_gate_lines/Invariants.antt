use Rattle.std.proofs.Common.{◌≡◌, ◌++◌, map}
use Rattle.si_netlist.specs.Loops.Parts.{gate_seen}
use Rattle.si_netlist.proofs.WritingLemmas.{gates_from}
use Rattle.si_netlist.proofs.write_gates.add_gate_lines.Given as goal

abbrev pub invariant-loop-signal : goal.invariant-loop-signal
invariant-loop-signal l = l.text ++ gates_from l.signals l.signal-index (map gate_seen l.gates)
    ≡ l.initial.text ++ gates_from l.signals 0 (map gate_seen l.initial.gates)
