-- The coarsest classes of states that steps keep, and how far they are found: classes of
-- states and classes of arcs are split by each other.
use Rattle.std.specs.Prelude.{◌≡◌, ◌↔◌, ◌⊎◌, ℕ, ◌<◌, ◌≤◌, Bool, IsTrue, List, length, Contains}
use Rattle.si_base.specs.declared.ids.Event.{Event}
use Rattle.si_base.specs.Graph.{StateGraph, Step}
use Rattle.si_graph.specs.Loops.Arcs.{edge_at}
use Rattle.si_fold.specs.Alike.{KeepsSteps}
use Rattle.si_fold.specs.Loops.Partition.{Shape, size, class_at, IsPartition, IsUnmarked}

-- states of one class lead by the same events to states of one class, and each relation that does
-- so stays within classes
pub record AreRefined (g : StateGraph) (p : Shape) : Type 0 where
  pub size_is : size p ≡ g.states
  pub steps : (s t : ℕ) (e : Event) (u : ℕ) → s < g.states → t < g.states
      → class_at p s ≡ class_at p t → Step g s e u
      → (v : ℕ) × Step g t e v × (class_at p u ≡ class_at p v)
  pub coarse : (related : ℕ → ℕ → Bool) → KeepsSteps g related → (s t : ℕ) → s < g.states
      → t < g.states → IsTrue (related s t) → class_at p s ≡ class_at p t

-- the arcs of one class are those of one event
pub record AreByEvent (g : StateGraph) (arcs : Shape) : Type 0 where
  pub partition : IsPartition arcs
  pub unmarked : IsUnmarked arcs
  pub size_is : size arcs ≡ length g.edges
  pub by_event : (x y : ℕ) → x < length g.edges → y < length g.edges
      → (class_at arcs x ≡ class_at arcs y)
      ↔ ((edge_at g.edges x).event ≡ (edge_at g.edges y).event)

-- the arc y, out of t, is of the class of the arc x, or of its event and waits
pub record Matches (g : StateGraph) (arcs : Shape) (done x t y : ℕ) : Type 0 where
  pub within : y < length g.edges
  pub out_of : (edge_at g.edges y).from ≡ t
  pub by_event : (edge_at g.edges x).event ≡ (edge_at g.edges y).event
  pub class_is : (class_at arcs x ≡ class_at arcs y) ⊎ (done ≤ class_at arcs y)

-- the first classes of arcs, so many, have split the states, and the first of states the arcs
pub record AreRefining (g : StateGraph) (states arcs : Shape) (done followed : ℕ) : Type 0 where
  pub states_are : IsPartition states
  pub states_unmarked : IsUnmarked states
  pub states_size : size states ≡ g.states
  pub arcs_are : IsPartition arcs
  pub arcs_unmarked : IsUnmarked arcs
  pub arcs_size : size arcs ≡ length g.edges
  pub done_few : done ≤ arcs.count
  pub followed_few : followed ≤ states.count
  pub by_event : (x y : ℕ) → x < length g.edges → y < length g.edges
      → class_at arcs x ≡ class_at arcs y
      → (edge_at g.edges x).event ≡ (edge_at g.edges y).event
  pub arcs_follow : (x y : ℕ) → x < length g.edges → y < length g.edges
      → class_at arcs x ≡ class_at arcs y
      → (class_at states (edge_at g.edges x).to ≡ class_at states (edge_at g.edges y).to)
      ⊎ ((followed ≤ class_at states (edge_at g.edges x).to)
      ⊎ (followed ≤ class_at states (edge_at g.edges y).to))
  pub states_follow : (x t : ℕ) → x < length g.edges → t < g.states
      → class_at states (edge_at g.edges x).from ≡ class_at states t
      → (done ≤ class_at arcs x) ⊎ ((y : ℕ) × Matches g arcs done x t y)
  pub states_coarse : (related : ℕ → ℕ → Bool) → KeepsSteps g related → (s t : ℕ)
      → s < g.states → t < g.states → IsTrue (related s t) → class_at states s ≡ class_at states t
  pub arcs_coarse : (related : ℕ → ℕ → Bool) → KeepsSteps g related → (x y : ℕ)
      → x < length g.edges → y < length g.edges
      → (edge_at g.edges x).event ≡ (edge_at g.edges y).event
      → IsTrue (related (edge_at g.edges x).from (edge_at g.edges y).from)
      → class_at arcs x ≡ class_at arcs y

-- just the arcs into the states of the list
abbrev pub AreArcsInto : StateGraph → List ℕ → List ℕ → Type 0
AreArcsInto g targets into = (x : ℕ)
    → Contains into x ↔ ((x < length g.edges) × Contains targets (edge_at g.edges x).to)
