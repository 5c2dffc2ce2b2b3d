-- (field) The inserted graph as `apply` makes it: the copies in order, the place of each, and the
-- list of arcs.
use Rattle.std.specs.Prelude.{◌≡◌, ◌≢◌, ℕ, slice_index, take, zero, suc, ◌+◌, ◌^◌, ◌<◌, ◌≤◌, ◌&&◌}
use Rattle.std.specs.Prelude.{All, AllPairs, Bool, true, false, not, List, [], ◌∷◌, ◌++◌, length}
use Rattle.std.specs.Prelude.{map, filter, ◌==◌, if◌then◌else◌}
use Rattle.std.specs.List.{flat_map}
use Rattle.si_base.specs.declared.graph.Edge.{Edge}
use Rattle.si_base.specs.declared.graph.Signal.{Signal}
use Rattle.si_base.specs.Limits.{max_signals, max_states}
use Rattle.si_base.specs.Graph.{StateGraph, arc, kind_place}
use Rattle.si_insert.specs.declared.partition.Class.{Class}
use Rattle.si_insert.specs.declared.partition.Class.TheVariants.{Low, Rising, High, Falling}
use Rattle.si_insert.specs.Partition.{class_of}
use Rattle.si_insert.specs.Insertion.{Copy, has_copy, waits, entry}
use Rattle.si_insert.specs.Accepted.{copy_count}

-- the copies of the states from s on, in state order
abbrev pub copies_from : ℕ → List Class → List Copy
copies_from s [] = []
copies_from s (Low ∷ rest) = record { state = s; value = false } ∷ copies_from (s + 1) rest
copies_from s (High ∷ rest) = record { state = s; value = true } ∷ copies_from (s + 1) rest
copies_from s (Rising ∷ rest) =
    record { state = s; value = false } ∷ record { state = s; value = true }
    ∷ copies_from (s + 1) rest
copies_from s (Falling ∷ rest) =
    record { state = s; value = false } ∷ record { state = s; value = true }
    ∷ copies_from (s + 1) rest

abbrev pub copies_of : List Class → List Copy
copies_of classes = copies_from 0 classes

-- how many copies stand before the copy at that value of the same state
abbrev pub copies_before : Class → Bool → ℕ
copies_before Low b = 0
copies_before High b = 0
copies_before Rising true = 1
copies_before Rising false = 0
copies_before Falling true = 1
copies_before Falling false = 0

-- the place of the copy (s,b): the copies of the states before s, then that at 0 before that at 1
abbrev pub place : List Class → ℕ → Bool → ℕ
place [] s b = 0
place (c ∷ rest) zero b = copies_before c b
place (c ∷ rest) (suc s) b = copy_count (c ∷ []) + place rest s b

-- firsts has the place of each state's first copy: how many copies the states before it have
pub record AreFirsts (classes : List Class) (firsts : List ℕ) : Type 0 where
  pub count : length firsts ≡ length classes
  pub firsts_are : (s : ℕ) → s < length classes → slice_index firsts s ≡ copy_count (take s classes)

-- an arc has a copy at that value
abbrev pub edge_has_copy : List Class → Bool → Edge → Bool
edge_has_copy classes b a =
    has_copy (class_of classes a.from) b
    && not (waits (class_of classes a.from) (class_of classes a.to) b)

abbrev pub copied_edge : List Class → Bool → Edge → Edge
copied_edge classes b a = arc (place classes a.from b) a.event (place classes a.to b)

-- the arcs out of a state
abbrev pub out_of : StateGraph → ℕ → List Edge
out_of g s = filter (λ a. a.from == s) g.edges

-- the arcs of the graph out of a copy
abbrev pub copied_edges : StateGraph → List Class → Copy → List Edge
copied_edges g classes x =
    map (copied_edge classes x.value) (filter (edge_has_copy classes x.value) (out_of g x.state))

-- the new signal switches at the states of that class
abbrev pub switches : Bool → Class → Bool
switches true Rising = true
switches false Falling = true
switches up c = false

-- the new signal, which is the n-th, switches at the copy
abbrev pub switch_edge : List Class → ℕ → Copy → Edge
switch_edge classes n x =
    arc (place classes x.state x.value) (record { sig = n; up = not x.value })
    (place classes x.state (not x.value))

-- the arc of the new signal out of a copy, if it switches there
abbrev pub switch_edges : StateGraph → List Class → Copy → List Edge
switch_edges g classes x =
    if switches (not x.value) (class_of classes x.state) then
    switch_edge classes (length g.signals) x ∷ [] else []

-- all arcs out of a copy: the event of the new signal is the last
abbrev pub edges_from : StateGraph → List Class → Copy → List Edge
edges_from g classes x = copied_edges g classes x ++ switch_edges g classes x

-- the arcs in order
abbrev pub new_edges : StateGraph → List Class → List Edge
new_edges g classes = flat_map (edges_from g classes) (copies_of classes)

abbrev pub new_start : StateGraph → List Class → ℕ
new_start g classes = place classes g.start (entry (class_of classes g.start))

-- the inserted graph
abbrev pub graph_of_copies : StateGraph → List Class → Signal → StateGraph
graph_of_copies g classes new =
    record {
      signals = g.signals ++ new ∷ [];
      states = copy_count classes;
      edges = new_edges g classes;
      start = new_start g classes;
    }

-- the conditions of `Graph::make`
pub record CanBeMade (signals : List Signal) (states : ℕ) (edges : List Edge) (start : ℕ)
    : Type 0 where
  pub some_state : 0 < states
  pub few_states : states ≤ max_states
  pub few_edges : length edges < 2 ^ 32
  pub few_signals : length signals ≤ max_signals
  pub names : AllPairs (λ x y. x.name ≢ y.name) signals
  pub kinds : AllPairs (λ x y. kind_place x.kind ≤ kind_place y.kind) signals
  pub within : All (λ a. (a.from < states) × (a.event.sig < length signals) × (a.to < states)) edges
  pub start_in : start < states
