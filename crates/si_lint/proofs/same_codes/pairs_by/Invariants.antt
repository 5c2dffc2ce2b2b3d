use Rattle.std.proofs.Common.{[]}
use Rattle.si_base.specs.Proper.{pair_place}
use Rattle.si_carried.specs.Lint.{IsSameCode}
use Rattle.si_conflicts.specs.Conflicts.{pairs_of}
use Rattle.si_told.specs.Loops.Search.{Adds, IsBelow}
use Rattle.si_lint.proofs.same_codes.pairs_by.Given as goal

abbrev pub invariant-loop-k : goal.invariant-loop-k
invariant-loop-k l =
    Adds pair_place (IsBelow (IsSameCode l.coded) (λ pair. pair.0) l.k) [] (pairs_of l.found.items)
