use Rattle.std.proofs.Common.{[]}
use Rattle.si_conflicts.specs.Conflicts.{pairs_of}
use Rattle.si_lint.specs.Findings.{IsMerged, merged_place}
use Rattle.si_told.specs.Loops.Search.{Adds, IsBelow}
use Rattle.si_lint.proofs.merged.merged_by.Given as goal

abbrev pub invariant-loop-k : goal.invariant-loop-k
invariant-loop-k l =
    Adds merged_place (IsBelow (IsMerged l.coded) (λ pair. pair.1) l.k) [] (pairs_of l.found.items)
