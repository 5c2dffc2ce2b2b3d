use Rattle.std.proofs.Common.{◌≡◌, ◌++◌}
use Rattle.si_structure.specs.StructureText.{ported_cells}
use Rattle.si_structure.proofs.PlacementWriting.{inverters_left}
use Rattle.si_structure.proofs.placements.add_inverters.Given as goal

abbrev pub invariant-loop-pin : goal.invariant-loop-pin
invariant-loop-pin l =
    l.text ++ inverters_left (ported_cells l.library) l.signals l.name l.pins l.pin-index l.literals
    ≡ l.initial.text ++ inverters_left (ported_cells l.library) l.signals l.name l.pins 0 l.initial.literals
