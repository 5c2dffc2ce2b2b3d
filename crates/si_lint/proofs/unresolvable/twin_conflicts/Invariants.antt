use Rattle.std.proofs.Common.{[]}
use Rattle.si_base.specs.Proper.{pair_place}
use Rattle.si_conflicts.specs.Conflicts.{pairs_of}
use Rattle.si_told.specs.Loops.Search.{Adds, IsBelow}
use Rattle.si_walks.specs.Twins.{IsTwinConflict}
use Rattle.si_lint.proofs.unresolvable.twin_conflicts.Given as goal

abbrev pub invariant-loop-k : goal.invariant-loop-k
invariant-loop-k l = Adds pair_place (IsBelow (IsTwinConflict l.coded) (λ x. x.0) l.k) [] (pairs_of l.found.items)
