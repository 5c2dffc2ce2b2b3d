use Rattle.si_kin.proofs.ClassLemmas.{AreJoinedAlong}
use Rattle.si_kin.proofs.kin.kin_classes.Given as goal

abbrev pub invariant-loop-arc : goal.invariant-loop-arc
invariant-loop-arc l = AreJoinedAlong l.coded l.arc-index l.classes.items
