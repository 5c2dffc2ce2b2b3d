use Rattle.std.proofs.Common.{◌≡◌, flat_map, take}
use Rattle.si_from_equations.specs.Beside as spec
use Rattle.si_from_equations.proofs.beside.unknown_inserts.Given as goal

abbrev pub invariant-loop-signal : goal.invariant-loop-signal
invariant-loop-signal l = l.inserts.items ≡ flat_map spec.unknown_of (take l.signal-index l.signals)
