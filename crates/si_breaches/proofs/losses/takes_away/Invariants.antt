use Rattle.si_breaches.specs.Loops.Steps.{AreKept}
use Rattle.si_breaches.proofs.losses.takes_away.Given as goal

abbrev pub invariant-loop-x : goal.invariant-loop-x
invariant-loop-x l = AreKept l.graph l.lost l.arcs l.x-index
