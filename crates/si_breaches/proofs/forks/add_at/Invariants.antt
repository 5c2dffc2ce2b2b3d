use Rattle.si_base.specs.Proper.{fork_place}
use Rattle.si_breaches.specs.Loops.Breaches.{ForksAt, IsOfFirstEvent}
use Rattle.si_told.specs.Loops.Search.{Adds, IsOfFirst}
use Rattle.si_breaches.proofs.forks.add_at.Given as goal

abbrev pub invariant-loop-a : goal.invariant-loop-a
invariant-loop-a l = Adds fork_place (IsOfFirst (ForksAt l.graph l.s) IsOfFirstEvent l.events l.a-index)
    l.initial.found.items l.found.items
