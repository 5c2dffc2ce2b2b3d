use Rattle.si_base.specs.Proper.{pair_place}
use Rattle.si_conflicts.specs.Conflicts.{pairs_of}
use Rattle.si_told.specs.Loops.Search.{Adds, IsBelow}
use Rattle.si_lint.specs.Loops.Search.{IsTwinConflictOf}
use Rattle.si_lint.proofs.unresolvable.add_twins_of.Given as goal

abbrev pub invariant-loop-k : goal.invariant-loop-k
invariant-loop-k l = Adds pair_place (IsBelow (IsTwinConflictOf l.coded l.p) (λ x. x.1) l.k)
    (pairs_of l.initial.found.items) (pairs_of l.found.items)
