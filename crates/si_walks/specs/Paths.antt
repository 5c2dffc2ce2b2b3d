-- (field) Paths of arcs, and the first of them, which tells one walk to a state in every graph,
-- also where one event leads from a state to several.
use Rattle.std.specs.Prelude.{◌≡◌, ℕ, List, [], ◌∷◌, length, map, Contains}
use Rattle.si_base.specs.declared.ids.Event.{Event}
use Rattle.si_base.specs.declared.graph.Edge.{Edge}
use Rattle.si_base.specs.Graph.{StateGraph, event_place}
use Rattle.si_base.specs.Order.{IsFirst}

-- the arcs, one behind the other, lead from s to t
abbrev pub IsPath : StateGraph → ℕ → List Edge → ℕ → Type 0
IsPath g s [] t = s ≡ t
IsPath g s (a ∷ ps) t = (a.from ≡ s) × Contains g.edges a × IsPath g a.to ps t

-- its events, and the state to which each leads
abbrev pub path_steps : List Edge → List ℕ
path_steps [] = []
path_steps (a ∷ ps) = event_place a.event ∷ a.to ∷ path_steps ps

-- shorter paths come first, and those of one length in the order of their events and states
abbrev pub path_place : List Edge → List ℕ
path_place ps = length ps ∷ path_steps ps

-- the first path from the start to s: no path is shorter, and of the shortest it is the least
abbrev pub IsFirstPath : StateGraph → ℕ → List Edge → Type 0
IsFirstPath g s ps = IsFirst path_place (λ bs. IsPath g g.start bs s) ps

abbrev pub events_of : List Edge → List Event
events_of ps = map (λ a. a.event) ps

-- the events of the first path from the start to s
pub record IsWayTo (g : StateGraph) (s : ℕ) (events : List Event) : Type 0 where
  pub path : List Edge
  pub first : IsFirstPath g s path
  pub events_are : events ≡ events_of path
