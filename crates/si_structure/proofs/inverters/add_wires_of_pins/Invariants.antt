use Rattle.std.proofs.Common.{◌≡◌, ◌++◌}
use Rattle.si_structure.proofs.PlacementWriting.{pin_wires_left}
use Rattle.si_structure.proofs.inverters.add_wires_of_pins.Given as goal

abbrev pub invariant-loop-pin : goal.invariant-loop-pin
invariant-loop-pin l = l.text ++ pin_wires_left l.name l.pins l.pin-index l.literals
    ≡ l.initial.text ++ pin_wires_left l.name l.pins 0 l.initial.literals
