use Rattle.std.proofs.Common.{◌≡◌, filter, take, length}
use Rattle.si_match.specs.Fit.{literals_of_signals}
use Rattle.si_divisor.specs.Loops.PinTests.{is_pin}
use Rattle.si_checks.specs.Loops.Lent.{coded_of}
use Rattle.si_divisor.proofs.pins.pin_set.Given as goal

abbrev pub invariant-loop-place : goal.invariant-loop-place
invariant-loop-place l = l.pins.items ≡ filter (is_pin l.support l.cubes.items)
    (take l.place (literals_of_signals (length (coded_of l.fn.graph).graph.signals)))
