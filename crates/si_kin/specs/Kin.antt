-- (field) Conflicts between states that input events join in either direction: no insertion that
-- delays no input resolves them.
use Rattle.std.specs.Prelude.{◌≡◌, ℕ, ◌<◌, ◌⊎◌, ◌↔◌, List, [], ◌∷◌, length, slice_index}
use Rattle.std.specs.Prelude.{Bool, IsTrue, Option, Some, None}
use Rattle.si_base.specs.declared.ids.Event.{Event}
use Rattle.si_base.specs.Codes.{CodedGraph}
use Rattle.si_base.specs.Graph.{Step}
use Rattle.si_base.specs.Order.{IsFirst}
use Rattle.si_base.specs.Proper.{HasNoConflict, IsConflict, pair_place}
use Rattle.si_insert.specs.Accepted.{IsInput}
use Rattle.si_insert.specs.Lineage.{Current, IsLineage}
use Rattle.si_insert.specs.declared.lineage.TraceStep.{TraceStep}

-- an input event leads from the one of two states to the other
abbrev pub AreNext : CodedGraph → (s t : ℕ) → Type 0
AreNext c s t = (e : Event) × IsInput c.graph.signals e.sig
    × (Step c.graph s e t ⊎ Step c.graph t e s)

-- a row of states from s to t, each next to the one before it
abbrev pub RowTo : CodedGraph → (s : ℕ) → List ℕ → (t : ℕ) → Type 0
RowTo c s [] t = s ≡ t
RowTo c s (u ∷ row) t = AreNext c s u × RowTo c u row t

abbrev pub AreKin : CodedGraph → (s t : ℕ) → Type 0
AreKin c s t = (row : List ℕ) × RowTo c s row t

-- a conflict of kin
pub record IsKinConflict (c : CodedGraph) (pair : ℕ × ℕ) : Type 0 where
  pub conflict : IsConflict c pair
  pub kin : AreKin c pair.0 pair.1

-- for each state a number, which states share just where they are kin
pub record AreKinClasses (c : CodedGraph) (classes : List ℕ) : Type 0 where
  pub count : length classes ≡ c.graph.states
  pub exactly : (s t : ℕ) → s < c.graph.states → t < c.graph.states
      → (slice_index classes s ≡ slice_index classes t) ↔ AreKin c s t

-- that the states are kin
abbrev pub TellsKin : CodedGraph → (p q : ℕ) → Bool → Type 0
TellsKin c p q told = IsTrue told ↔ AreKin c p q

-- the first conflict of kin, or None where there is none
abbrev pub IsFirstKinOrNone : CodedGraph → Option (ℕ × ℕ) → Type 0
IsFirstKinOrNone c None = (pair : ℕ × ℕ) → IsKinConflict c pair → ⊥
IsFirstKinOrNone c (Some pair) = IsFirst pair_place (IsKinConflict c) pair

-- no lineage of a graph with such a conflict is without conflicts. It rests on inputs that wait for
-- no inserted signal: where an input leads from a state, a new signal doesn't begin to switch or
-- come to an end, so states that are next to each other are entered at one value of it
abbrev pub KinStayUnresolved : Type 0
KinStayUnresolved = (given : CodedGraph) (trace : List TraceStep) (v : Current) (pair : ℕ × ℕ)
    → IsLineage given trace v → IsKinConflict given pair → HasNoConflict v.coded → ⊥
