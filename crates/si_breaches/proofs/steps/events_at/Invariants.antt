use Rattle.std.proofs.Common.{[]}
use Rattle.si_breaches.specs.Loops.Steps.{Enables, IsFirstBy, place_of_event}
use Rattle.si_told.specs.Loops.Search.{Adds, IsOfFirst}
use Rattle.si_breaches.proofs.steps.events_at.Given as goal

abbrev pub invariant-loop-x : goal.invariant-loop-x
invariant-loop-x l = Adds place_of_event
    (IsOfFirst (Enables l.graph l.s) (IsFirstBy l.graph l.s) l.arcs l.x-index) [] l.events.items
