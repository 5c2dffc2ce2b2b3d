-- Arcs by their places in a graph's list, and the arcs out of a state.
use Rattle.std.specs.Prelude.{◌≡◌, ℕ, ◌<◌, ◌≤◌, ◌↔◌, false, List, Contains, slice_index_or, Option}
use Rattle.std.specs.Prelude.{Some, None}
use Rattle.std.specs.List.Sorted.{IsStrictlySortedBy}
use Rattle.si_base.specs.declared.graph.Edge.{Edge}
use Rattle.si_base.specs.EdgeOrder.{edge_cmp}
use Rattle.si_base.specs.Graph.{StateGraph, IsGraph}

-- what stands past the end of a list of arcs
abbrev pub no_edge : Edge
no_edge = record { from = 0; event = record { sig = 0; up = false }; to = 0 }

-- the arc at a place
abbrev pub edge_at : List Edge → ℕ → Edge
edge_at edges k = slice_index_or edges k no_edge

-- k is the first place from `low` on and below `high` at which P holds
pub record IsFirstFrom (P : ℕ → Type 0) (low high k : ℕ) : Type 0 where
  pub from : low ≤ k
  pub below : k < high
  pub holds : P k
  pub none_before : (j : ℕ) → low ≤ j → j < k → P j → ⊥

-- the first such place, or None where there is none
abbrev pub IsFirstPlace : (ℕ → Type 0) → ℕ → ℕ → Option ℕ → Type 0
IsFirstPlace P low high None = (j : ℕ) → low ≤ j → j < high → P j → ⊥
IsFirstPlace P low high (Some k) = IsFirstFrom P low high k

-- the place has an arc out of s
abbrev pub IsOutOf : List Edge → ℕ → ℕ → Type 0
IsOutOf edges s k = (edge_at edges k).from ≡ s

-- the place has an arc into t
abbrev pub IsInto : List Edge → ℕ → ℕ → Type 0
IsInto edges t k = (edge_at edges k).to ≡ t

-- the arcs out of s, in order
pub record AreOut (g : StateGraph) (s : ℕ) (arcs : List Edge) : Type 0 where
  pub graph : IsGraph g
  pub exactly : (a : Edge) → Contains arcs a ↔ (Contains g.edges a × (a.from ≡ s))
  pub ordered : IsStrictlySortedBy edge_cmp arcs
