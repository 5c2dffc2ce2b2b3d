use Rattle.std.proofs.Common.{◌≡◌, ◌++◌, drop}
use Rattle.si_timing.proofs.Writing.{pins_left}
use Rattle.si_timing.proofs.lines.add_pins.Given as goal

abbrev pub invariant-loop-pin : goal.invariant-loop-pin
invariant-loop-pin l =
    l.text ++ pins_left l.signals l.arc l.ports (drop l.pin-index l.pin-items) l.literals
    ≡ l.initial.text ++ pins_left l.signals l.arc l.ports l.pin-items l.initial.literals
