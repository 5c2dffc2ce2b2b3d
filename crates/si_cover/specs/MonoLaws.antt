-- (law) The laws of monotonous cubes, one word each.
use Rattle.std.specs.Prelude.{◌≡◌, ℕ, ◌<◌, ◌++◌, ◌↔◌, ◌⊎◌, List, length, filter, Contains}
use Rattle.si_base.specs.declared.ids.Event.{Event}
use Rattle.si_base.specs.declared.ids.Literal.{Literal}
use Rattle.si_base.specs.Graph.{Step}
use Rattle.si_base.specs.Codes.{CodedGraph, code}
use Rattle.si_base.specs.Netlist.{literal_value}
use Rattle.si_cube.specs.Cubes.{Covers}
use Rattle.si_cube.specs.Literals.{full_literals, InSignalOrder}
use Rattle.si_cover.specs.Loops.Growing.{IsGrowing, IsWider}
use Rattle.si_cover.specs.Mono.{IsFallingCover, CoversOutside, IsMono, IsLeastCube, IsLeastMono}
use Rattle.si_cover.specs.Mono.{ShowsNoMono}

-- the literals of two monotonous cubes make a third
abbrev pub MonosMeet : Type 0
MonosMeet = (c : CodedGraph) (er qr : List ℕ) (x y : List Literal) → IsMono c er qr x
    → IsMono c er qr y → IsMono c er qr (x ++ y)

-- two least ones cover the same codes
abbrev pub LeastMonosAgree : Type 0
LeastMonosAgree = (c : CodedGraph) (er qr : List ℕ) (x y : List Literal) → IsLeastMono c er qr x
    → IsLeastMono c er qr y → (k : ℕ) → Covers x k → Covers y k

-- two least ones of a component that has a state have the same literals
abbrev pub LeastMonosHaveSameLiterals : Type 0
LeastMonosHaveSameLiterals = (c : CodedGraph) (er qr : List ℕ) (x y : List Literal) (s : ℕ)
    → Contains er s → IsLeastMono c er qr x → IsLeastMono c er qr y
    → (l : Literal) → Contains x l ↔ Contains y l

-- the least falling cube is the least monotonous one, if it covers none outside
abbrev pub FallingIsMono : Type 0
FallingIsMono = (c : CodedGraph) (er qr : List ℕ) (cube : List Literal)
    → IsLeastCube (IsFallingCover c er qr) cube → ((s : ℕ) → CoversOutside c er qr cube s → ⊥)
    → IsLeastMono c er qr cube

-- if it does, there is no monotonous cube
abbrev pub StrayedIsNone : Type 0
StrayedIsNone = (c : CodedGraph) (er qr : List ℕ) (s : ℕ) (other : List Literal)
    → ShowsNoMono c er qr s → IsMono c er qr other → ⊥

-- the state that is shown is one
abbrev pub NoMonoIsUnique : Type 0
NoMonoIsUnique = (c : CodedGraph) (er qr : List ℕ) (s t : ℕ) → ShowsNoMono c er qr s
    → ShowsNoMono c er qr t → s ≡ t

-- a component that has a state has a least one, or a state that shows that there is none
abbrev pub MonoOrNone : Type 0
MonoOrNone = (c : CodedGraph) (er qr : List ℕ) (s : ℕ) → Contains er s
    → ((cube : List Literal) × IsLeastMono c er qr cube × InSignalOrder cube)
    ⊎ ((t : ℕ) × ShowsNoMono c er qr t)

-- ---- the turns
-- growth begins with the full cube of a state of the component
abbrev pub GrowthBegins : Type 0
GrowthBegins = (c : CodedGraph) (er qr : List ℕ) (s : ℕ) → Contains er s
    → IsGrowing c er qr (full_literals (length c.graph.signals) 0 (code c s))

-- a state of the component is taken in
abbrev pub GrowthTakes : Type 0
GrowthTakes = (c : CodedGraph) (er qr : List ℕ) (cube wider : List Literal) (s : ℕ)
    → IsGrowing c er qr cube → Contains er s → IsWider cube (code c s) wider
    → IsGrowing c er qr wider

-- a state that the third property demands is taken in
abbrev pub GrowthGoesOn : Type 0
GrowthGoesOn = (c : CodedGraph) (er qr : List ℕ) (cube wider : List Literal)
    → (s : ℕ) (e : Event) (t : ℕ) → IsGrowing c er qr cube → Step c.graph s e t → Contains qr t
    → Covers cube (code c t) → IsWider cube (code c s) wider → IsGrowing c er qr wider

-- where the component is covered and none is demanded, the cube is the least falling one
abbrev pub GrowthEnds : Type 0
GrowthEnds = (c : CodedGraph) (er qr : List ℕ) (cube : List Literal) → IsGrowing c er qr cube
    → ((s : ℕ) → Contains er s → Covers cube (code c s))
    → ((s : ℕ) (e : Event) (t : ℕ) → Step c.graph s e t → Contains qr t
    → Covers cube (code c t) → Covers cube (code c s))
    → IsLeastCube (IsFallingCover c er qr) cube

-- a code that isn't covered costs a literal
abbrev pub TurnsDropLiterals : Type 0
TurnsDropLiterals = (cube : List Literal) (k : ℕ) → (Covers cube k → ⊥)
    → length (filter (literal_value k) cube) < length cube
