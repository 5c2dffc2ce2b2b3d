-- (field) Monotonous cubes of a component of excited states, and of the states where its signal
-- then rests. Both sets are lists of states. Source: the book, on monotonous covers.
use Rattle.std.specs.Prelude.{ℕ, ◌<◌, List, [], ◌∷◌, length, All, Contains}
use Rattle.si_base.specs.declared.ids.Event.{Event}
use Rattle.si_base.specs.declared.ids.Literal.{Literal}
use Rattle.si_base.specs.Order.{IsFirst}
use Rattle.si_base.specs.Graph.{Step}
use Rattle.si_base.specs.Codes.{CodedGraph, code}
use Rattle.si_cube.specs.Cubes.{Covers}

-- the literals are of signals of the graph
abbrev pub IsOf : CodedGraph → List Literal → Type 0
IsOf c cube = All (λ (l : Literal). l.sig < length c.graph.signals) cube

-- a cube over the signals; it covers each state of the component; and its value never rises on an
-- arc into a state where the signal rests: if it covers the target, it covers the source
pub record IsFallingCover (c : CodedGraph) (er qr : List ℕ) (cube : List Literal) : Type 0 where
  pub of : IsOf c cube
  pub covers : (s : ℕ) → Contains er s → Covers cube (code c s)
  pub never_rises : (s : ℕ) (e : Event) (t : ℕ) → Step c.graph s e t → Contains qr t
      → Covers cube (code c t) → Covers cube (code c s)

-- the cube covers s, which is outside both sets
pub record CoversOutside (c : CodedGraph) (er qr : List ℕ) (cube : List Literal) (s : ℕ)
    : Type 0 where
  pub within : s < c.graph.states
  pub covers : Covers cube (code c s)
  pub not_er : Contains er s → ⊥
  pub not_qr : Contains qr s → ⊥

-- a monotonous cube: it covers no state outside both sets
pub record IsMono (c : CodedGraph) (er qr : List ℕ) (cube : List Literal) : Type 0 where
  pub falling : IsFallingCover c er qr cube
  pub stays : (s : ℕ) → CoversOutside c er qr cube s → ⊥

-- of the cubes with a property, one that covers no code which another doesn't cover
pub record IsLeastCube (P : List Literal → Type 0) (cube : List Literal) : Type 0 where
  pub meets : P cube
  pub least : (other : List Literal) → P other → (k : ℕ) → Covers cube k → Covers other k

-- the least monotonous cube
abbrev pub IsLeastMono : CodedGraph → List ℕ → List ℕ → List Literal → Type 0
IsLeastMono c er qr cube = IsLeastCube (IsMono c er qr) cube

-- states are ordered by their numbers
abbrev pub state_place : ℕ → List ℕ
state_place s = s ∷ []

-- there is none: s is the first state outside both sets that is covered by the least cube with the
-- two other properties
abbrev pub ShowsNoMono : CodedGraph → List ℕ → List ℕ → ℕ → Type 0
ShowsNoMono c er qr s = (cube : List Literal) × IsLeastCube (IsFallingCover c er qr) cube
    × IsFirst state_place (CoversOutside c er qr cube) s
