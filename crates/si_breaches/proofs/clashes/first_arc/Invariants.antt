use Rattle.std.proofs.Common.{ℕ, ◌<◌, List, get_or}
use Rattle.si_base.specs.declared.ids.Event.{Event}
use Rattle.si_base.specs.declared.graph.Edge.{Edge}
use Rattle.si_breaches.specs.Breaches.{AreFirstWays}
use Rattle.si_breaches.specs.Loops.Breaches.{Meets}
use Rattle.si_breaches.proofs.clashes.first_arc.Given as goal

abbrev pub invariant-loop-x : goal.invariant-loop-x
invariant-loop-x l = (walk : ℕ → List Event) → AreFirstWays l.graph walk → (j : ℕ) (d : Edge) → j < l.x-index
    → Meets walk l.a l.sought (get_or l.arcs j d) → ⊥
