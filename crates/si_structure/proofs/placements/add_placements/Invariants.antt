use Rattle.std.proofs.Common.{◌≡◌, ◌++◌, map}
use Rattle.si_netlist.specs.Loops.Parts.{gate_seen}
use Rattle.si_structure.specs.StructureText.{ported_cells}
use Rattle.si_structure.proofs.PlacementWriting.{placements_left}
use Rattle.si_structure.proofs.placements.add_placements.Given as goal

abbrev pub invariant-loop-signal : goal.invariant-loop-signal
invariant-loop-signal l =
    l.text ++ placements_left (ported_cells l.library) l.signals l.forced l.signal-index (map gate_seen l.gates)
    ≡ l.initial.text ++ placements_left (ported_cells l.library) l.signals l.forced 0 (map gate_seen l.initial.gates)
