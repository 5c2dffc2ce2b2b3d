-- (field) Conflicts of which it is known that no insertions resolve them.
use Rattle.std.specs.Prelude.{ℕ, ◌<◌, ◌≤◌, ◌⊎◌, List, Contains, Option, Some, None}
use Rattle.si_base.specs.Codes.{CodedGraph}
use Rattle.si_base.specs.Order.{IsFirst}
use Rattle.si_base.specs.Proper.{HasNoConflict, pair_place}
use Rattle.si_conflicts.specs.Conflicts.{AreFirstConflicts}
use Rattle.si_insert.specs.declared.lineage.TraceStep.{TraceStep}
use Rattle.si_insert.specs.Lineage.{Current, IsLineage}
use Rattle.si_walks.specs.Joined.{IsJoinedConflict}
use Rattle.si_walks.specs.Twins.{IsTwinConflict, max_twin_states}

-- how many conflicts of a graph with more states are looked at
abbrev pub max_looked_at : ℕ
max_looked_at = 1000

-- a conflict of twins, in a graph that has few enough states for all pairs of them
pub record IsOfTwins (c : CodedGraph) (pair : ℕ × ℕ) : Type 0 where
  pub few : c.graph.states ≤ max_twin_states
  pub twins : IsTwinConflict c pair

-- one of the first conflicts of a graph with more states, to both states of which input events
-- alone lead from one state
pub record IsJoinedAmongFirst (c : CodedGraph) (pair : ℕ × ℕ) : Type 0 where
  pub many : max_twin_states < c.graph.states
  pub joined : IsJoinedConflict c pair
  pub looked_at : List (ℕ × ℕ)
  pub first : AreFirstConflicts c max_looked_at looked_at
  pub among : Contains looked_at pair

-- such a conflict
abbrev pub IsNeverResolved : CodedGraph → ℕ × ℕ → Type 0
IsNeverResolved c pair = IsOfTwins c pair ⊎ IsJoinedAmongFirst c pair

-- there is none
abbrev pub HasNoNever : CodedGraph → Type 0
HasNoNever c = (pair : ℕ × ℕ) → IsNeverResolved c pair → ⊥

-- the first, or None where there is none
abbrev pub IsFirstNeverOrNone : CodedGraph → Option (ℕ × ℕ) → Type 0
IsFirstNeverOrNone c None = HasNoNever c
IsFirstNeverOrNone c (Some pair) = IsFirst pair_place (IsNeverResolved c) pair

-- no lineage of a graph with such a conflict is without conflicts
abbrev pub NeverIsNeverResolved : Type 0
NeverIsNeverResolved = (given : CodedGraph) (trace : List TraceStep) (v : Current) (pair : ℕ × ℕ)
    → IsLineage given trace v → IsNeverResolved given pair
    → HasNoConflict v.coded → ⊥
