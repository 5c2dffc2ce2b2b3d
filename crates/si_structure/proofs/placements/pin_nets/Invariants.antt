use Rattle.std.proofs.Common.{◌≡◌, ◌++◌}
use Rattle.si_structure.proofs.PlacementWriting.{nets_left}
use Rattle.si_structure.proofs.placements.pin_nets.Given as goal

abbrev pub invariant-loop-pin : goal.invariant-loop-pin
invariant-loop-pin l = l.nets.items ++ nets_left l.signals l.name l.pins l.pin-index l.literals
    ≡ nets_left l.signals l.name l.pins 0 l.initial.literals
