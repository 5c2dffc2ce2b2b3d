use Rattle.std.proofs.Common.{◌≡◌, map, take}
use Rattle.si_certify.specs.Hidden as spec
use Rattle.si_certify.proofs.hidden.hidden_signals.Given as goal

abbrev pub invariant-loop-signal : goal.invariant-loop-signal
invariant-loop-signal l = l.hidden.items ≡ map spec.hidden_signal (take l.signal-index l.signals)
