use Rattle.si_bounds.proofs.NeedLists.{AreStableBefore}
use Rattle.si_bounds.proofs.needs.stable_states.Given as goal

abbrev pub invariant-loop-s : goal.invariant-loop-s
invariant-loop-s l = AreStableBefore l.classes l.s l.high l.low
