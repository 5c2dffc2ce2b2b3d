use Rattle.std.proofs.Common.{◌≡◌, ◌≤◌, ◌+◌, ◌++◌, drop}
use Rattle.si_joins.specs.Gates.{places}
use Rattle.si_joins.proofs.places.places.Given as goal

abbrev pub invariant-loop-signal : goal.invariant-loop-signal
invariant-loop-signal l =
    (l.to.items ++ places l.whole l.next (drop l.signal-index l.own) ≡ places l.whole l.first l.own)
    × (l.next ≤ l.first + l.signal-index)
