use Rattle.std.proofs.Common.{ℕ, List, []}
use Rattle.si_base.specs.declared.ids.Event.{Event}
use Rattle.si_breaches.specs.Breaches.{AreFirstWays, IsClashing, clashing_place}
use Rattle.si_told.specs.Loops.Search.{Adds, IsBelow}
use Rattle.si_breaches.proofs.clashes.clashes.Given as goal

abbrev pub invariant-loop-k : goal.invariant-loop-k
invariant-loop-k l = (walk : ℕ → List Event) → AreFirstWays l.graph walk
    → Adds clashing_place (IsBelow (IsClashing l.graph walk) (λ c. c.sig) l.k) [] l.found.items
