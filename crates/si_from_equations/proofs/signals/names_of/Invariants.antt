use Rattle.std.proofs.Common.{◌≡◌, take}
use Rattle.si_base.specs.Graph.{names_in}
use Rattle.si_from_equations.proofs.signals.names_of.Given as goal

abbrev pub invariant-loop-signal : goal.invariant-loop-signal
invariant-loop-signal l = record {
  names : l.names ≡ take l.signal-index (names_in l.signals);
}
