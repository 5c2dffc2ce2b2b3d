use Rattle.std.proofs.Common.{◌≡◌, map, take}
use Rattle.si_inserted.specs.Current as current
use Rattle.si_inserted.proofs.graph.given_signals.Given as goal

abbrev pub invariant-loop-signal : goal.invariant-loop-signal
invariant-loop-signal l = l.given.items ≡ map current.given_signal (take l.signal-index l.signals)
