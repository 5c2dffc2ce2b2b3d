use Rattle.si_bounds.proofs.KeptLemmas.{AreKeptBefore}
use Rattle.si_bounds.proofs.kept.kept_triggers.Given as goal

abbrev pub invariant-loop-a : goal.invariant-loop-a
invariant-loop-a l = AreKeptBefore l.coded l.classes l.z l.a-items l.kept l.a-index
