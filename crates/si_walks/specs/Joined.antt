-- (field) Conflicts whose states input events join: no insertion that delays no input resolves
-- them.
use Rattle.std.specs.Prelude.{◌≡◌, ℕ, ◌+◌, ◌⊎◌, List, [], ◌∷◌, length, Option, Some, None}
use Rattle.si_base.specs.declared.ids.Event.{Event}
use Rattle.si_base.specs.Codes.{CodedGraph}
use Rattle.si_base.specs.Order.{IsFirst}
use Rattle.si_base.specs.Proper.{IsConflict}
use Rattle.si_insert.specs.Lineage.{Current, origin}
use Rattle.si_walks.specs.declared.arcs.Arcs.TheVariants.{OfInputs}
use Rattle.si_walks.specs.declared.witness.Witness.{Witness}
use Rattle.si_walks.specs.Walks.{InputsLead, WalkAlong, IsFirstWalk}

-- a conflict of c to whose two states input events alone lead from one source, which may be one of
-- the two
pub record IsJoinedConflict (c : CodedGraph) (pair : ℕ × ℕ) : Type 0 where
  pub conflict : IsConflict c pair
  pub source : ℕ
  pub to_first : InputsLead c.graph source pair.0
  pub to_second : InputsLead c.graph source pair.1

-- one state of the pair comes from s, and the other from t
abbrev pub ComeFrom : Current → ℕ × ℕ → ℕ → ℕ → Type 0
ComeFrom v pair s t =
    ((origin v pair.0 ≡ s) × (origin v pair.1 ≡ t))
    ⊎ ((origin v pair.0 ≡ t) × (origin v pair.1 ≡ s))

-- the current graph has a conflict of which one state comes from s, and the other from t
abbrev pub HasConflictFrom : Current → ℕ → ℕ → Type 0
HasConflictFrom v s t = (pair : ℕ × ℕ) × IsConflict v.coded pair × ComeFrom v pair s t

-- a state, and two walks out of it
pub record Source : Type 0 where
  pub state : ℕ
  pub first : List Event
  pub second : List Event

-- the code's
abbrev pub source_of : Witness → Source
source_of w = record { state = w.source; first = w.first.items; second = w.second.items }

-- fewer events in the two walks together come first, and of as many the lesser state
abbrev pub source_place : Source → List ℕ
source_place x = (length x.first + length x.second) ∷ x.state ∷ []

-- the walks are by inputs alone and lead to the states of the pair
pub record IsSource (c : CodedGraph) (pair : ℕ × ℕ) (x : Source) : Type 0 where
  pub to_first : WalkAlong c.graph OfInputs x.state x.first pair.0
  pub to_second : WalkAlong c.graph OfInputs x.state x.second pair.1

-- the first of these, with the first walks to both
pub record IsFirstSource (c : CodedGraph) (pair : ℕ × ℕ) (x : Source) : Type 0 where
  pub is_first : IsFirst source_place (IsSource c pair) x
  pub first : IsFirstWalk c.graph OfInputs x.state pair.0 x.first
  pub second : IsFirstWalk c.graph OfInputs x.state pair.1 x.second

-- None where input events alone lead to both states from no state
abbrev pub IsSourceOrNone : CodedGraph → ℕ × ℕ → Option Source → Type 0
IsSourceOrNone c pair None = (x : Source) → IsSource c pair x → ⊥
IsSourceOrNone c pair (Some x) = IsFirstSource c pair x
