use Rattle.si_base.specs.Proper.{loss_place}
use Rattle.si_breaches.specs.Loops.Breaches.{LosesOf, IsOfCause}
use Rattle.si_told.specs.Loops.Search.{Adds, IsOfFirst}
use Rattle.si_breaches.proofs.losses.add_of.Given as goal

abbrev pub invariant-loop-by : goal.invariant-loop-by
invariant-loop-by l = Adds loss_place (IsOfFirst (LosesOf l.graph l.s l.lost) IsOfCause l.events l.by-index)
    l.initial.found.items l.found.items
