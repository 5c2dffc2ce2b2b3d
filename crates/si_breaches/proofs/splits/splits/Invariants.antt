use Rattle.std.proofs.Common.{◌≤◌, []}
use Rattle.si_base.specs.Proper.{split_place}
use Rattle.si_breaches.specs.Breaches.{IsSplit}
use Rattle.si_breaches.specs.Loops.Breaches.{IsSecond}
use Rattle.si_told.specs.Loops.Search.{Adds, IsOfFirst}
use Rattle.si_breaches.proofs.splits.splits.Given as goal

abbrev pub invariant-loop-k : goal.invariant-loop-k
invariant-loop-k l =
    Adds split_place (IsOfFirst (IsSplit l.graph) IsSecond l.arcs l.k) [] l.found.items × (1 ≤ l.k)
