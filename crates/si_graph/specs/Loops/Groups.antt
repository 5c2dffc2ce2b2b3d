-- Arcs in groups: those of one source side by side.
use Rattle.std.specs.Prelude.{◌≡◌, ℕ, ◌<◌, ◌≤◌, ◌↔◌, List, Contains, length}
use Rattle.std.specs.List.Sorted.{IsStrictlySortedBy}
use Rattle.si_base.specs.declared.graph.Edge.{Edge}
use Rattle.si_base.specs.EdgeOrder.{edge_cmp}

-- these are the arcs out of s
abbrev pub IsGroup : List Edge → ℕ → List Edge → Type 0
IsGroup arcs s group = (a : Edge) → Contains group a ↔ (Contains arcs a × (a.from ≡ s))

-- these are the arcs out of the first n states
abbrev pub AreGroups : List Edge → ℕ → List Edge → Type 0
AreGroups arcs n groups = (a : Edge) → Contains groups a ↔ (Contains arcs a × (a.from < n))

-- both lists have the same arcs
abbrev pub HaveSameArcs : List Edge → List Edge → Type 0
HaveSameArcs xs ys = (a : Edge) → Contains xs a ↔ Contains ys a

-- the arcs in order, each once
pub record AreOrdered (arcs ordered : List Edge) : Type 0 where
  pub sorted : IsStrictlySortedBy edge_cmp ordered
  pub same : HaveSameArcs ordered arcs
  pub no_longer : length ordered ≤ length arcs
