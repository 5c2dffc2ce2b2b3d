use Rattle.std.proofs.Common.{◌≡◌, take}
use Rattle.si_map.proofs.functions.copy_of.Given as goal

abbrev pub invariant-loop-signal : goal.invariant-loop-signal
invariant-loop-signal l = l.signals.items ≡ take l.signal-index l.fn.function.signals.items
