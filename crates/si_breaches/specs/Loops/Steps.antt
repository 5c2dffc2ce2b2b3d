-- Steps from a state by one event, and by two.
use Rattle.std.specs.Prelude.{◌≡◌, ◌≢◌, ℕ, ◌<◌, ◌≤◌, List, [], ◌∷◌, Option, Some, None, Contains}
use Rattle.std.specs.Prelude.{Bool, ◌&&◌, ◌||◌, get_or, IsTrue, if◌then◌else◌, ltb}
use Rattle.si_base.specs.declared.ids.Event.{Event}
use Rattle.si_base.specs.declared.graph.Edge.{Edge}
use Rattle.std.specs.Ordering.{is_lt, nat_cmp}
use Rattle.si_base.specs.EdgeOrder.{event_cmp}
use Rattle.si_base.specs.Graph.{StateGraph, Step, enables, event_place, same_event}
use Rattle.si_base.specs.System.{IsLeastTarget}
use Rattle.si_told.specs.All.{AreAll}

-- ---- the events of a state
abbrev pub place_of_event : Event → List ℕ
place_of_event e = event_place e ∷ []

abbrev pub Enables : StateGraph → ℕ → Event → Type 0
Enables g s e = IsTrue (enables g s e)

-- those that s enables
abbrev pub AreEnabled : StateGraph → ℕ → List Event → Type 0
AreEnabled g s events = AreAll place_of_event (Enables g s) events

-- the arc is the first out of s by the event
pub record IsFirstBy (g : StateGraph) (s : ℕ) (x : Edge) (e : Event) : Type 0 where
  pub event : x.event ≡ e
  pub least : IsLeastTarget g s e x.to

-- ---- steps by one event
-- an arc out of s by e
pub record IsArcBy (g : StateGraph) (s : ℕ) (e : Event) (a : Edge) : Type 0 where
  pub there : Contains g.edges a
  pub from : a.from ≡ s
  pub by : a.event ≡ e

-- a state from the state `low` on to which e leads from s
pub record IsTargetFrom (g : StateGraph) (s : ℕ) (e : Event) (low t : ℕ) : Type 0 where
  pub step : Step g s e t
  pub from : low ≤ t

-- the arc comes before those out of its source by e to the states from `low` on
abbrev pub is_before_those : Event → ℕ → Edge → Bool
is_before_those e low x =
    is_lt (event_cmp x.event e) || (same_event x.event e && is_lt (nat_cmp x.to low))

-- ---- steps by two
-- s leads by e and then f to w
abbrev pub IsEnd : StateGraph → ℕ → Event → Event → ℕ → Type 0
IsEnd g s e f w = (t : ℕ) × Step g s e t × Step g t f w

-- one from the state `low` on
pub record IsEndFrom (g : StateGraph) (s : ℕ) (e f : Event) (low w : ℕ) : Type 0 where
  pub ends : IsEnd g s e f w
  pub from : low ≤ w

-- f leads to w, one of those, from the target of one of the arcs
abbrev pub IsEndBehind : StateGraph → List Edge → Event → ℕ → ℕ → Type 0
IsEndBehind g arcs f low w = (x : Edge) × Contains arcs x × IsTargetFrom g x.to f low w

-- the two orders of a and c lead from s to two different states
pub record AreEndsApart (g : StateGraph) (s : ℕ) (a c : Event) (ends : ℕ × ℕ) : Type 0 where
  pub one : IsEnd g s a c ends.0
  pub other : IsEnd g s c a ends.1
  pub apart : ends.0 ≢ ends.1

-- the lesser of those that are there
abbrev pub lesser_of : Option ℕ → Option ℕ → Option ℕ
lesser_of None q = q
lesser_of (Some m) None = Some m
lesser_of (Some m) (Some n) = Some (if ltb n m then n else m)

-- ---- what an event takes away
-- s leads by another event than `lost`, `by`, to a state where `lost` isn't enabled
pub record TakesAway (g : StateGraph) (s : ℕ) (lost by : Event) : Type 0 where
  pub another : lost ≢ by
  pub after : (t : ℕ) × Step g s by t × (IsTrue (enables g t lost) → ⊥)

-- behind the first k of the arcs it is enabled
abbrev pub AreKept : StateGraph → Event → List Edge → ℕ → Type 0
AreKept g lost arcs k = (j : ℕ) (d : Edge) → j < k → IsTrue (enables g (get_or arcs j d).to lost)
