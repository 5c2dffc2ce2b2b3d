-- New ids for the marked states: their places among these.
use Rattle.std.specs.Prelude.{◌≡◌, ℕ, ◌<◌, ◌≤◌, List, length, Contains, AllPairs, Bool, false}
use Rattle.std.specs.Prelude.{slice_index, slice_index_or, slice_get, Some, ◌↔◌}
use Rattle.si_base.specs.declared.graph.Edge.{Edge}
use Rattle.si_base.specs.Sets.{IsIn}

-- kept has the marked states below a bound in order, and places has the place of each
pub record Renames (marks : List Bool) (bound : ℕ) (kept places : List ℕ) : Type 0 where
  pub in_order : AllPairs (λ x y. x < y) kept
  pub members : (t : ℕ) → Contains kept t ↔ ((t < bound) × IsIn marks t)
  pub few : length kept ≤ bound
  pub size : length places ≡ bound
  pub places_are : (t : ℕ) → t < bound → IsIn marks t
      → slice_get kept (slice_index places t) ≡ Some t

-- the arc between the places of its states
abbrev pub renamed : List ℕ → Edge → Edge
renamed places a = record {
  from = slice_index places a.from;
  event = a.event;
  to = slice_index places a.to;
}

-- the arc leaves a marked state
abbrev pub leaves_marked : List Bool → Edge → Bool
leaves_marked marks a = slice_index_or marks a.from false
