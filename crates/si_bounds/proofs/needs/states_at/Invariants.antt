use Rattle.si_bounds.proofs.NeedLists.{AreStatesBefore}
use Rattle.si_bounds.proofs.needs.states_at.Given as goal

abbrev pub invariant-loop-s : goal.invariant-loop-s
invariant-loop-s l = AreStatesBefore l.points l.set l.s l.states
