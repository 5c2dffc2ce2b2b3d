use Rattle.std.proofs.Common.{◌≡◌, ◌++◌}
use Rattle.si_genlib.proofs.WritingLemmas.{pins_from}
use Rattle.si_genlib.proofs.write.add_pins.Given as goal

abbrev pub invariant-loop-pin : goal.invariant-loop-pin
invariant-loop-pin l = l.text ++ pins_from l.pins l.pin-index ≡ l.initial.text ++ pins_from l.pins 0
