use Rattle.si_base.specs.Proper.{fork_place}
use Rattle.si_breaches.specs.Loops.Breaches.{ForksOf, IsOfSecondEvent}
use Rattle.si_told.specs.Loops.Search.{Adds, IsOfFirst}
use Rattle.si_breaches.proofs.forks.add_of.Given as goal

abbrev pub invariant-loop-c : goal.invariant-loop-c
invariant-loop-c l = Adds fork_place (IsOfFirst (ForksOf l.graph l.s l.a) IsOfSecondEvent l.events l.c-index)
    l.initial.found.items l.found.items
