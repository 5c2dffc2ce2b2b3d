use Rattle.std.proofs.Common.{[]}
use Rattle.si_base.specs.Proper.{pair_place}
use Rattle.si_conflicts.specs.Conflicts.{pairs_of}
use Rattle.si_lint.specs.Findings.{IsJoinedOfFirst}
use Rattle.si_told.specs.Loops.Search.{Adds, IsOfFirst}
use Rattle.si_lint.proofs.UnresolvableLemmas.{IsOf}
use Rattle.si_lint.proofs.unresolvable.joined_of.Given as goal

abbrev pub invariant-loop-pair : goal.invariant-loop-pair
invariant-loop-pair l = Adds pair_place (IsOfFirst (IsJoinedOfFirst l.coded) IsOf l.pairs l.pair-index) []
    (pairs_of l.found.items)
