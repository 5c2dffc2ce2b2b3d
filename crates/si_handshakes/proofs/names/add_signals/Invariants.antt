use Rattle.std.proofs.Common.{◌≡◌, ◌++◌}
use Rattle.si_base.specs.GivenGraph.{signals_of}
use Rattle.si_handshakes.specs.Handshakes.{numbered}
use Rattle.si_handshakes.proofs.names.add_signals.Given as goal

abbrev pub invariant-loop-k : goal.invariant-loop-k
invariant-loop-k l = l.signals.items ≡ l.fn.signals.items ++ signals_of l.kind (numbered l.stem l.k)
