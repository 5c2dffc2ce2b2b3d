-- How a cube grows until it is the least one that covers the component and has the third
-- property.
use Rattle.std.specs.Prelude.{◌≡◌, ℕ, List, Contains, filter}
use Rattle.si_base.specs.declared.ids.Event.{Event}
use Rattle.si_base.specs.declared.ids.Literal.{Literal}
use Rattle.si_base.specs.declared.graph.Edge.{Edge}
use Rattle.si_base.specs.Graph.{Step}
use Rattle.si_base.specs.Codes.{CodedGraph, code}
use Rattle.si_base.specs.Netlist.{literal_value}
use Rattle.si_cube.specs.Cubes.{Covers, IsLeastAbove}
use Rattle.si_cover.specs.Mono.{IsOf, IsFallingCover}

-- between two turns: the cube covers no code that some falling cube doesn't cover
pub record IsGrowing (c : CodedGraph) (er qr : List ℕ) (cube : List Literal) : Type 0 where
  pub of : IsOf c cube
  pub below : (other : List Literal) → IsFallingCover c er qr other → (k : ℕ) → Covers cube k
      → Covers other k

-- the least cube above the cube and the code, of literals of the cube
pub record IsWider (cube : List Literal) (code : ℕ) (wider : List Literal) : Type 0 where
  pub literals : wider ≡ filter (literal_value code) cube
  pub least : IsLeastAbove cube code wider

-- the third property demands s: an arc leads from it into a covered state where the signal rests,
-- and s isn't covered
pub record IsDemanded (c : CodedGraph) (qr : List ℕ) (cube : List Literal) (s : ℕ) : Type 0 where
  pub e : Event
  pub t : ℕ
  pub step : Step c.graph s e t
  pub there : Contains qr t
  pub covers : Covers cube (code c t)
  pub left : Covers cube (code c s) → ⊥

-- the arc shows that its source is demanded
pub record Demands (c : CodedGraph) (qr : List ℕ) (cube : List Literal) (a : Edge) : Type 0 where
  pub there : Contains qr a.to
  pub covers : Covers cube (code c a.to)
  pub left : Covers cube (code c a.from) → ⊥
