-- (field) How many arcs lead from states to a target.
use Rattle.std.specs.Prelude.{◌≡◌, ℕ, ◌+◌, ◌<◌, ◌≤◌, ◌⊎◌, List, length, Contains, Option, Some}
use Rattle.std.specs.Prelude.{None, slice_index_or}
use Rattle.si_base.specs.declared.ids.Event.{Event}
use Rattle.si_base.specs.declared.graph.Edge.{Edge}
use Rattle.si_base.specs.Graph.{StateGraph, Step, event_place}
use Rattle.std.specs.Prelude.{count_by, Bool, true, false}
use Rattle.si_walks.specs.declared.arcs.Arcs.{Arcs}
use Rattle.si_walks.specs.Walks.{Takes, WalkAlong, LeadsAlong}

-- as many arcs of that kind lead from s to t, and no fewer do; None where no walk along such arcs
-- leads there
abbrev pub IsDistance : StateGraph → Arcs → ℕ → ℕ → Option ℕ → Type 0
IsDistance g arcs s t None = LeadsAlong g arcs s t → ⊥
IsDistance g arcs s t (Some n) = ((es : List Event) × (length es ≡ n) × WalkAlong g arcs s es t)
    × ((fs : List Event) → WalkAlong g arcs s fs t → n ≤ length fs)

-- the distance that stands at s
abbrev pub at : List (Option ℕ) → ℕ → Option ℕ
at distances s = slice_index_or distances s None

-- the distances of all states to t
pub record AreDistances (g : StateGraph) (arcs : Arcs) (t : ℕ) (distances : List (Option ℕ))
    : Type 0 where
  pub size : length distances ≡ g.states
  pub each : (s : ℕ) → s < g.states → IsDistance g arcs s t (at distances s)

-- ---- how a search finds distances
-- at s none stands
abbrev pub is_none : Option ℕ → Bool
is_none None = true
is_none (Some n) = false

-- how many states have no distance yet
abbrev pub unfound_count : List (Option ℕ) → ℕ
unfound_count distances = count_by is_none distances

-- of the states that had no distance those with Q, and no others, get the distance n, and stand
-- then in the list of new ones
pub record Finds (Q : ℕ → Type 0) (n : ℕ) (old : List (Option ℕ)) (before : List ℕ)
    (new : List (Option ℕ)) (after : List ℕ) : Type 0 where
  pub size : length new ≡ length old
  pub kept : (s m : ℕ) → at old s ≡ Some m → at new s ≡ Some m
  pub found : (s m : ℕ) → at new s ≡ Some m
      → (at old s ≡ Some m) ⊎ ((m ≡ n) × Q s × Contains after s)
  pub waits : (s : ℕ) → Contains before s → Contains after s
  pub listed : (s : ℕ) → Contains after s → Contains before s ⊎ (at new s ≡ Some n)
  pub counted : unfound_count new + length after ≡ unfound_count old + length before

-- and each state with Q has a distance then
pub record FindsAll (Q : ℕ → Type 0) (n : ℕ) (old : List (Option ℕ)) (before : List ℕ)
    (new : List (Option ℕ)) (after : List ℕ) : Type 0 where
  pub finds : Finds Q n old before new after
  pub all : (s : ℕ) → Q s → (m : ℕ) × (at new s ≡ Some m)

-- the source of an arc, where the arc is of that kind
abbrev pub IsTakenFrom : StateGraph → Arcs → Edge → ℕ → Type 0
IsTakenFrom g arcs a s = (s ≡ a.from) × Takes g arcs a.event

-- an arc of that kind leads from s to t, or to a state of the list
abbrev pub LeadsTo : StateGraph → Arcs → ℕ → ℕ → Type 0
LeadsTo g arcs t s = (e : Event) × Takes g arcs e × Step g s e t

abbrev pub LeadsInto : StateGraph → Arcs → List ℕ → ℕ → Type 0
LeadsInto g arcs ts s = (t : ℕ) × Contains ts t × LeadsTo g arcs t s

-- the distances up to n are found, and in the layer stand the states at distance n
pub record IsLayer (g : StateGraph) (arcs : Arcs) (target n : ℕ) (distances : List (Option ℕ))
    (layer : List ℕ) : Type 0 where
  pub size : length distances ≡ g.states
  pub there : at distances target ≡ Some 0
  pub sound : (s m : ℕ) → at distances s ≡ Some m
      → (m ≤ n) × ((es : List Event) × (length es ≡ m) × WalkAlong g arcs s es target)
  pub last : (s : ℕ) → Contains layer s → at distances s ≡ Some n
  pub closed : (t m : ℕ) → at distances t ≡ Some m → Contains layer t
      ⊎ ((s : ℕ) → LeadsTo g arcs t s → (k : ℕ) × (at distances s ≡ Some k) × (k ≤ m + 1))

-- ---- the next arc of a shortest walk
-- from t one arc less leads to the target than from s
abbrev pub BringsNearer : List (Option ℕ) → ℕ → ℕ → Type 0
BringsNearer distances s t =
    (left : ℕ) × (at distances s ≡ Some (left + 1)) × (at distances t ≡ Some left)

-- the arc leads from s, is of that kind, and brings nearer by one
pub record IsNearer (g : StateGraph) (arcs : Arcs) (distances : List (Option ℕ)) (s : ℕ)
    (a : Edge) : Type 0 where
  pub from : a.from ≡ s
  pub there : Contains g.edges a
  pub takes : Takes g arcs a.event
  pub nearer : BringsNearer distances s a.to

-- and no other such arc is by an earlier event
pub record IsFirstNearer (g : StateGraph) (arcs : Arcs) (distances : List (Option ℕ)) (s : ℕ)
    (a : Edge) : Type 0 where
  pub is : IsNearer g arcs distances s a
  pub first : (b : Edge) → IsNearer g arcs distances s b → event_place a.event ≤ event_place b.event
