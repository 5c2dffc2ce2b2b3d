use Rattle.si_bounds.proofs.NeedChoices.{AreToldBefore}
use Rattle.si_bounds.proofs.needs.+add_further.Given as goal

abbrev pub decreases-add_further : goal.decreases-add_further
decreases-add_further l = l.more

abbrev pub invariant-loop-y : goal.invariant-loop-y
invariant-loop-y l =
    AreToldBefore l.coded l.z l.tables l.read.items l.chosen l.more l.y l.fn.needs.items l.needs.items
