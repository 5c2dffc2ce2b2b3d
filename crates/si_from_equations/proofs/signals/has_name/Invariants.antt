use Rattle.std.proofs.Common.{◌≡◌, drop}
use Rattle.si_from_equations.specs.Beside as spec
use Rattle.si_from_equations.proofs.signals.has_name.Given as goal

abbrev pub invariant-loop-signal : goal.invariant-loop-signal
invariant-loop-signal l =
    spec.has_name (drop l.signal-index l.signals) l.name ≡ spec.has_name l.signals l.name
