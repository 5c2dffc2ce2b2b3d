use Rattle.std.proofs.Common.{[]}
use Rattle.si_carried.specs.Lint.{IsOneWay}
use Rattle.si_told.specs.All.{arc_place}
use Rattle.si_told.specs.Loops.Search.{Adds, IsOfFirst}
use Rattle.si_lint.proofs.OneWayLemmas.{IsThat}
use Rattle.si_lint.proofs.one_way.one_way.Given as goal

abbrev pub invariant-loop-arc : goal.invariant-loop-arc
invariant-loop-arc l =
    Adds arc_place (IsOfFirst (IsOneWay l.graph) IsThat l.arcs l.arc-index) [] l.found.items
