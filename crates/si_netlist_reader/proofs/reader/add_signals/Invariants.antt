use Rattle.std.proofs.Common.{◌≡◌, ◌++◌, ◌-◌, take, drop}
use Rattle.si_base.specs.GivenGraph.{signals_of}
use Rattle.si_netlist_reader.proofs.reader.add_signals.Given as goal

abbrev pub invariant-loop-k : goal.invariant-loop-k
invariant-loop-k l =
    l.signals.items ≡ l.fn.signals.items ++ signals_of l.kind (take (l.k - l.from) (drop l.from l.names))
