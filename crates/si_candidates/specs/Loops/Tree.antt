-- A tree of arcs, from the start of a graph to each other state.
use Rattle.std.specs.Prelude.{◌≡◌, ℕ, ◌<◌, ◌⊎◌, Bool, List, length}
use Rattle.std.specs.List.{slice_index_or}
use Rattle.si_base.specs.declared.ids.Event.{Event}
use Rattle.si_base.specs.Graph.{StateGraph, Step}
use Rattle.si_base.specs.Sets.{IsIn}
use Rattle.si_candidates.specs.declared.tree.Link.{Link}

-- l is the link at k
abbrev pub IsLinkAt : List Link → ℕ → Link → Type 0
IsLinkAt links k l = (k < length links) × (slice_index_or links k l ≡ l)

-- t is the start, or one of the first n links leads to it
abbrev pub IsMet : ℕ → List Link → ℕ → ℕ → Type 0
IsMet start links n t =
    (t ≡ start) ⊎ ((k : ℕ) × (l : Link) × (k < n) × IsLinkAt links k l × (l.to ≡ t))

-- a link is along an arc of g, from a state that the links before it met to one that they didn't
pub record IsGrowing (g : StateGraph) (links : List Link) (k : ℕ) (l : Link) : Type 0 where
  pub from_met : IsMet g.start links k l.from
  pub along : (e : Event) × Step g l.from e l.to
  pub new : IsMet g.start links k l.to → ⊥

-- the links lead from the start to each other state, each from a state that those before it met
pub record IsTree (g : StateGraph) (links : List Link) : Type 0 where
  pub each : (k : ℕ) (l : Link) → IsLinkAt links k l → IsGrowing g links k l
  pub all : (s : ℕ) → s < g.states → IsMet g.start links (length links) s

-- the links lead from the start to each marked state, and to no other
pub record IsGrown (g : StateGraph) (marks : List Bool) (links : List Link) : Type 0 where
  pub size : length marks ≡ g.states
  pub each : (k : ℕ) (l : Link) → IsLinkAt links k l → IsGrowing g links k l
  pub met : (s : ℕ) → IsIn marks s → IsMet g.start links (length links) s
  pub marked : (s : ℕ) → IsMet g.start links (length links) s → IsIn marks s
