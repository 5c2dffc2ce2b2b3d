-- Arcs in chains: those into a state, linked by their places.
use Rattle.std.specs.Prelude.{◌≡◌, ℕ, ◌+◌, ◌<◌, ◌≤◌, ◌^◌, List, length, All, slice_index}
use Rattle.std.specs.List.Sorted.{IsStrictlySortedBy}
use Rattle.si_base.specs.declared.graph.Edge.{Edge}
use Rattle.si_base.specs.EdgeOrder.{edge_cmp}
use Rattle.si_graph.specs.Loops.Arcs.{edge_at}

-- the arcs among so many states, in order
pub record StoredArcs : Type 0 where
  pub states : ℕ
  pub edges : List Edge

-- k is the first place from `low` on at which P holds, or `high` where there is none below it
pub record IsFirstOrEnd (P : ℕ → Type 0) (low high k : ℕ) : Type 0 where
  pub from : low ≤ k
  pub up_to : k ≤ high
  pub holds : k < high → P k
  pub none_before : (j : ℕ) → low ≤ j → j < k → P j → ⊥

-- the places of the arcs from `low` on are linked by the state `end_of` an arc: heads has the first
-- place of each state, nexts has for each place the next one of its state, and the number of arcs
-- ends a chain
pub record AreLinked (end_of : Edge → ℕ) (states : ℕ) (edges : List Edge) (low : ℕ)
    (heads nexts : List ℕ) : Type 0 where
  pub heads_count : length heads ≡ states
  pub nexts_count : length nexts ≡ length edges
  pub heads_are : (s : ℕ) → s < states
      → IsFirstOrEnd (λ j. end_of (edge_at edges j) ≡ s) low (length edges) (slice_index heads s)
  pub nexts_are : (k : ℕ) → low ≤ k → k < length edges → IsFirstOrEnd (λ j. end_of (edge_at edges j)
      ≡ end_of (edge_at edges k)) (k + 1) (length edges) (slice_index nexts k)

-- the state to which an arc leads
abbrev pub target : Edge → ℕ
target a = a.to

-- ids in range, and the arcs in order, each once
pub record AreStored (states : ℕ) (edges : List Edge) : Type 0 where
  pub few : length edges < 2 ^ 32
  pub within : All (λ a. (a.from < states) × (a.to < states)) edges
  pub ordered : IsStrictlySortedBy edge_cmp edges
