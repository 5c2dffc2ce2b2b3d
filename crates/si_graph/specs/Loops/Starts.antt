-- Arcs in order: those out of a state stand together, from its start up to the start of the
-- next state.
use Rattle.std.specs.Prelude.{◌≡◌, ℕ, ◌+◌, ◌<◌, ◌≤◌, List, length, slice_index}
use Rattle.std.specs.List.Sorted.{IsPartitionPoint}
use Rattle.si_base.specs.declared.graph.Edge.{Edge}
use Rattle.si_graph.specs.declared.chain.Chain.{Chain}
use Rattle.si_graph.specs.Loops.Arcs.{edge_at}
use Rattle.si_graph.specs.Loops.Chains.{AreStored, AreLinked, target}

-- there are at least k arcs, and the first k leave states below s
pub record AreBelow (edges : List Edge) (s k : ℕ) : Type 0 where
  pub up_to : k ≤ length edges
  pub each : (j : ℕ) → j < k → (edge_at edges j).from < s

-- the start of s is the number of arcs whose source is below s: these come first, and no others do
pub record IsStart (edges : List Edge) (s start : ℕ) : Type 0 where
  pub up_to : start ≤ length edges
  pub parts : IsPartitionPoint (λ a. a.from < s) (λ a. s ≤ a.from) edges start

-- the start of each state, and last the end of all arcs
pub record AreStarts (states : ℕ) (edges : List Edge) (starts : List ℕ) : Type 0 where
  pub count : length starts ≡ states + 1
  pub each : (s : ℕ) → s < length starts → IsStart edges s (slice_index starts s)

-- the arcs are stored, with the starts of the states, and each linked to the next one into its
-- target
pub record AreIndexed (states : ℕ) (edges : List Edge) (starts : List ℕ) (into : Chain)
    : Type 0 where
  pub stored : AreStored states edges
  pub starts_are : AreStarts states edges starts
  pub into_linked : AreLinked target states edges 0 into.heads.items into.nexts.items
  pub into_end : into.end ≡ length edges
