use Rattle.std.proofs.Common.{◌≡◌, take}
use Rattle.si_from_equations.proofs.started.copied_signals.Given as goal

abbrev pub invariant-loop-signal : goal.invariant-loop-signal
invariant-loop-signal l = l.copies.items ≡ take l.signal-index l.signals
