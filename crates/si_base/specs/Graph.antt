-- (field) State graphs: steps, walks, reachable states, and the cut to these.
use Rattle.std.specs.Prelude.{◌≡◌, ℕ, ◌+◌, ◌*◌, ◌<◌, ◌≤◌, ◌^◌, ◌==◌, ◌&&◌, ◌↔◌, Bool, true, false}
use Rattle.std.specs.Prelude.{List, [], ◌∷◌, length, Contains, All, AllPairs, slice_index, map}
use Rattle.std.specs.Prelude.{slice_get, Some, unwrap_or, option_map, if◌then◌else◌, IsTrue}
use mathlib.Core.Bool.{beq}
use Rattle.std.specs.List.{list_any}
use Rattle.si_base.specs.declared.ids.Event.{Event}
use Rattle.si_base.specs.declared.graph.Edge.{Edge}
use Rattle.si_base.specs.declared.graph.Signal.{Signal}
use Rattle.si_base.specs.declared.graph.SigKind.{SigKind}
use Rattle.si_base.specs.declared.graph.SigKind.TheVariants.{Input, Output, Internal, Inserted}
use Rattle.std.specs.List.Sorted.{IsStrictlySortedBy}
use Rattle.std.specs.Ordering.{nat_cmp}
use Rattle.si_base.specs.EdgeOrder.{edge_cmp}
use Rattle.si_base.specs.Limits.{max_signals, max_states}

-- signals in signal order, the number of states, the arcs, the start
pub record StateGraph : Type 0 where
  pub signals : List Signal
  pub states : ℕ
  pub edges : List Edge
  pub start : ℕ

-- the arc s -e-> t
abbrev pub arc : ℕ → Event → ℕ → Edge
arc s e t = record { from = s; event = e; to = t }

-- a+ and a-
abbrev pub rise : ℕ → Event
rise a = record { sig = a; up = true }

abbrev pub fall : ℕ → Event
fall a = record { sig = a; up = false }

-- s leads by e to t
abbrev pub Step : StateGraph → ℕ → Event → ℕ → Type 0
Step g s e t = Contains g.edges (arc s e t)

-- the events es, one step after another, lead from s to t
abbrev pub Walk : StateGraph → ℕ → List Event → ℕ → Type 0
Walk g s [] t = s ≡ t
Walk g s (e ∷ es) t = (u : ℕ) × Step g s e u × Walk g u es t

-- a walk from the start ends at s
abbrev pub IsReachable : StateGraph → ℕ → Type 0
IsReachable g s = (es : List Event) × Walk g g.start es s

-- the same signal and the same direction
abbrev pub same_event : Event → Event → Bool
same_event e f = (e.sig == f.sig) && beq e.up f.up

-- some arc leaves s by e
abbrev pub enables : StateGraph → ℕ → Event → Bool
enables g s e = list_any (λ a. (a.from == s) && same_event a.event e) g.edges

-- the names of all signals, in signal order
abbrev pub names_in : List Signal → List (List ℕ)
names_in signals = map (λ x. x.name) signals

-- the name of signal z, empty where there is no such signal
abbrev pub name_of : List Signal → ℕ → List ℕ
name_of signals z = unwrap_or (option_map (λ x. x.name) (slice_get signals z)) []

-- the kinds that the circuit drives
abbrev pub is_driven : SigKind → Bool
is_driven Input = false
is_driven Output = true
is_driven Internal = true
is_driven Inserted = true

-- signal z is there and isn't an input
abbrev pub IsNonInput : List Signal → ℕ → Type 0
IsNonInput signals z = (x : Signal) × (slice_get signals z ≡ Some x) × IsTrue (is_driven x.kind)

-- a place in signal order for each kind
abbrev pub kind_place : SigKind → ℕ
kind_place Input = 0
kind_place Output = 1
kind_place Internal = 2
kind_place Inserted = 3

-- event order: signal order, with + before -
abbrev pub event_place : Event → ℕ
event_place e = 2 * e.sig + (if e.up then 0 else 1)

-- what holds of each graph: the limits, ids in range, kinds in signal order, names distinct, arcs
-- in order and each once
pub record IsGraph (g : StateGraph) : Type 0 where
  pub few_states : g.states ≤ max_states
  pub few_signals : length g.signals ≤ max_signals
  pub few_edges : length g.edges < 2 ^ 32
  pub within : All (λ a. (a.from < g.states) × (a.event.sig < length g.signals) × (a.to < g.states))
      g.edges
  pub starts : g.start < g.states
  pub kinds : AllPairs (λ x y. kind_place x.kind ≤ kind_place y.kind) g.signals
  pub names : AllPairs (λ x y. x.name ≡ y.name → ⊥) g.signals
  pub ordered : IsStrictlySortedBy edge_cmp g.edges

-- g has these parts, and just the arcs of the list
pub record IsMadeOf (signals : List Signal) (states : ℕ) (edges : List Edge) (start : ℕ)
    (g : StateGraph) : Type 0 where
  pub signals_are : g.signals ≡ signals
  pub states_are : g.states ≡ states
  pub start_is : g.start ≡ start
  pub graph : IsGraph g
  pub arcs : (a : Edge) → Contains g.edges a ↔ Contains edges a

-- kept are the reachable states of g in order, and h is g on these
pub record IsCut (g : StateGraph) (kept : List ℕ) (h : StateGraph) : Type 0 where
  pub signals_stay : h.signals ≡ g.signals
  pub count : h.states ≡ length kept
  pub in_order : IsStrictlySortedBy nat_cmp kept
  pub reachable : (s : ℕ) → Contains kept s ↔ IsReachable g s
  pub start_kept : slice_get kept h.start ≡ Some g.start
  pub arcs : (s : ℕ) (e : Event) (t : ℕ) → s < length kept → t < length kept → Step h s e t
      ↔ Step g (slice_index kept s) e (slice_index kept t)
  pub graph : IsGraph h
