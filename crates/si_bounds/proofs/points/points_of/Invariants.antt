use Rattle.si_bounds.proofs.PointLemmas.{ArePointsBefore}
use Rattle.si_bounds.proofs.points.points_of.Given as goal

abbrev pub invariant-loop-s : goal.invariant-loop-s
invariant-loop-s l = ArePointsBefore l.coded l.z l.places l.s l.at.items l.seen
