-- (field) All that has a property, in an order.
use Rattle.std.specs.Prelude.{ℕ, ◌↔◌, List, [], ◌∷◌, AllPairs, Contains}
use Rattle.si_base.specs.declared.graph.Edge.{Edge}
use Rattle.si_base.specs.Graph.{event_place}
use Rattle.si_base.specs.Order.{Before}

-- all that have P, each once, in the order of their places
pub record AreAll {A : Type 0} (place : A → List ℕ) (P : A → Type 0) (xs : List A) : Type 0 where
  pub exactly : (x : A) → Contains xs x ↔ P x
  pub in_order : AllPairs (λ x y. Before (place x) (place y)) xs

-- signals and states are ordered by their numbers
abbrev pub number_place : ℕ → List ℕ
number_place n = n ∷ []

-- arcs by source, event and target
abbrev pub arc_place : Edge → List ℕ
arc_place a = a.from ∷ event_place a.event ∷ a.to ∷ []
