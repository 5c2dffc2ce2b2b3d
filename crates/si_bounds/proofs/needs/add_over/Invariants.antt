use Rattle.si_bounds.proofs.NeedLists.{AreAddedBefore}
use Rattle.si_bounds.proofs.needs.add_over.Given as goal

abbrev pub invariant-loop-missed : goal.invariant-loop-missed
invariant-loop-missed l = AreAddedBefore l.points.at.items l.missed-items l.missed-index l.fn.needs.items l.needs.items
