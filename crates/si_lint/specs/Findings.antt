-- (field) What the report of a graph tells, kind by kind.
use Rattle.std.specs.Prelude.{◌≢◌, ℕ, ◌<◌, ◌≤◌, ◌⊎◌, List, [], ◌∷◌, Contains}
use Rattle.si_base.specs.declared.graph.Edge.{Edge}
use Rattle.si_base.specs.Codes.{CodedGraph}
use Rattle.si_base.specs.Proper.{Loss, loss_place, pair_place}
use Rattle.si_carried.specs.Lint.{IsUnused, IsDeadState, IsOneWay, IsChoice, IsDisabling}
use Rattle.si_carried.specs.Lint.{IsSameCode}
use Rattle.si_conflicts.specs.Conflicts.{AreFirstConflicts}
use Rattle.si_fold.specs.Alike.{IsLeastAlike}
use Rattle.si_told.specs.All.{AreAll, number_place, arc_place}
use Rattle.si_walks.specs.Joined.{IsJoinedConflict}
use Rattle.si_walks.specs.Twins.{IsTwinConflict, max_twin_states}

-- the first state of the pair stands for the second, which folding doesn't keep
pub record IsMerged (c : CodedGraph) (pair : ℕ × ℕ) : Type 0 where
  pub least : IsLeastAlike c pair.1 pair.0
  pub other : pair.0 ≢ pair.1

-- such pairs are ordered by the state that isn't kept
abbrev pub merged_place : ℕ × ℕ → List ℕ
merged_place pair = pair.1 ∷ []

-- how many conflicts of a large graph are looked at
abbrev pub max_looked_at : ℕ
max_looked_at = 1000

-- one of these conflicts to whose states input events alone lead from one state
pub record IsJoinedOfFirst (c : CodedGraph) (pair : ℕ × ℕ) : Type 0 where
  pub joined : IsJoinedConflict c pair
  pub looked_at : List (ℕ × ℕ)
  pub first : AreFirstConflicts c max_looked_at looked_at
  pub among : Contains looked_at pair

-- a conflict that no insertion resolves: any conflict of twins; or where the graph has too many
-- states for a look at all pairs, one of the first conflicts that input events join
abbrev pub IsUnresolvable : CodedGraph → ℕ × ℕ → Type 0
IsUnresolvable c pair = ((c.graph.states ≤ max_twin_states) × IsTwinConflict c pair)
    ⊎ ((max_twin_states < c.graph.states) × IsJoinedOfFirst c pair)

-- signals, states, arcs, inputs that another event disables, and pairs of states
pub record Findings : Type 0 where
  pub unused : List ℕ
  pub dead : List ℕ
  pub one_way : List Edge
  pub choices : List Loss
  pub disablings : List Loss
  pub same_codes : List (ℕ × ℕ)
  pub merged : List (ℕ × ℕ)
  pub unresolvable : List (ℕ × ℕ)

-- all that c has of each kind
pub record AreFindings (c : CodedGraph) (f : Findings) : Type 0 where
  pub unused : AreAll number_place (IsUnused c.graph) f.unused
  pub dead : AreAll number_place (IsDeadState c.graph) f.dead
  pub one_way : AreAll arc_place (IsOneWay c.graph) f.one_way
  pub choices : AreAll loss_place (IsChoice c.graph) f.choices
  pub disablings : AreAll loss_place (IsDisabling c.graph) f.disablings
  pub same_codes : AreAll pair_place (IsSameCode c) f.same_codes
  pub merged : AreAll merged_place (IsMerged c) f.merged
  pub unresolvable : AreAll pair_place (IsUnresolvable c) f.unresolvable
