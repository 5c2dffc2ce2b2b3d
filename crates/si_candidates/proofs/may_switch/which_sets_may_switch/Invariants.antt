use Rattle.si_candidates.specs.Loops.ManySets.{EachTells}
use Rattle.si_candidates.proofs.MaySwitchWords.{PassBelow}
use Rattle.si_candidates.proofs.may_switch.which_sets_may_switch.Given as goal

abbrev pub invariant-loop-arc : goal.invariant-loop-arc
invariant-loop-arc l = EachTells (λ set. PassBelow l.graph set l.arc-index) l.lists l.may.items
