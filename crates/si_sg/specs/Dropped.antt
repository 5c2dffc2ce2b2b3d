-- (text) The states of a text that its given graph hasn't: those that are cut off.
use Rattle.std.specs.Prelude.{◌≡◌, ℕ, ◌<◌, ◌↔◌, List, [], map, Contains, slice_index_or}
use Rattle.std.specs.List.Sorted.{IsStrictlySortedBy}
use Rattle.std.specs.Ordering.{nat_cmp}
use Rattle.si_base.specs.declared.graph.Signal.{Signal}
use Rattle.si_base.specs.Graph.{StateGraph, IsReachable}
use Rattle.si_sg.specs.GivenGraph.{IsSpelled, signals_in}
use Rattle.si_sg.specs.GraphText.{header_of, section_of}
use Rattle.si_sg.specs.Section.{Section}

-- the states of g that no walk from its start reaches, in order
pub record AreUnreached (g : StateGraph) (states : List ℕ) : Type 0 where
  pub exactly : (s : ℕ) → Contains states s ↔ ((s < g.states) × (IsReachable g s → ⊥))
  pub in_order : IsStrictlySortedBy nat_cmp states

-- the names of those of the graph that the signals and the arc section spell
pub record AreDroppedOf (signals : List Signal) (x : Section) (names : List (List ℕ)) : Type 0 where
  pub whole : StateGraph
  pub spelled : IsSpelled signals x whole
  pub states : List ℕ
  pub are : AreUnreached whole states
  pub named : names ≡ map (λ s. slice_index_or x.states s []) states

-- the names of the states of the text that no walk from the marked state reaches, in its order
abbrev pub IsDroppedBy : (text : List ℕ) → List (List ℕ) → Type 0
IsDroppedBy text names = AreDroppedOf (signals_in (header_of text)) (section_of text) names
