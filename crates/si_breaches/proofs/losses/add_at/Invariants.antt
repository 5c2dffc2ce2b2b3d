use Rattle.si_base.specs.Proper.{loss_place}
use Rattle.si_breaches.specs.Loops.Breaches.{LosesAt, IsOfLost}
use Rattle.si_told.specs.Loops.Search.{Adds, IsOfFirst}
use Rattle.si_breaches.proofs.losses.add_at.Given as goal

abbrev pub invariant-loop-lost : goal.invariant-loop-lost
invariant-loop-lost l = Adds loss_place (IsOfFirst (LosesAt l.graph l.s) IsOfLost l.events l.lost-index)
    l.initial.found.items l.found.items
