use Rattle.std.proofs.Common.{◌≡◌, ◌++◌, map}
use Rattle.si_netlist.specs.Loops.Parts.{gate_seen}
use Rattle.si_structure.specs.StructureText.{ported_cells}
use Rattle.si_structure.proofs.PlacementWriting.{wires_left}
use Rattle.si_structure.proofs.inverters.add_inverted_wires.Given as goal

abbrev pub invariant-loop-signal : goal.invariant-loop-signal
invariant-loop-signal l =
    l.text ++ wires_left (ported_cells l.library) l.signals l.signal-index (map gate_seen l.gates)
    ≡ l.initial.text ++ wires_left (ported_cells l.library) l.signals 0 (map gate_seen l.initial.gates)
