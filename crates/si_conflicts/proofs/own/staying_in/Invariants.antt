use Rattle.si_conflicts.proofs.KeyLemmas.{ExcitedTo}
use Rattle.si_conflicts.proofs.OwnLemmas.{LeadsInto}
use Rattle.si_conflicts.proofs.own.staying_in.Given as goal

abbrev pub invariant-loop-arc : goal.invariant-loop-arc
invariant-loop-arc l = ExcitedTo (LeadsInto l.graph l.set) l.arc-items l.arc-index l.staying
