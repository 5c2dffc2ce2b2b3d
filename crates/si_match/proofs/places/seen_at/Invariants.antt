use Rattle.si_match.specs.Loops.Places.{AreSeen}
use Rattle.si_match.proofs.places.seen_at.Given as goal

abbrev pub invariant-loop-state : goal.invariant-loop-state
invariant-loop-state l = AreSeen l.coded l.z l.chosen l.seen
