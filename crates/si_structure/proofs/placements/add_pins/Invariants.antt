use Rattle.std.proofs.Common.{◌≡◌, ◌++◌}
use Rattle.si_structure.proofs.PlacementWriting.{pins_left}
use Rattle.si_structure.proofs.placements.add_pins.Given as goal

abbrev pub invariant-loop-pin : goal.invariant-loop-pin
invariant-loop-pin l =
    l.text ++ pins_left l.pins l.pin-index l.nets ≡ l.initial.text ++ pins_left l.pins 0 l.initial.nets
