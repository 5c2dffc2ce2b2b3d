-- (field) Walks along all arcs or along those of inputs alone, and the first of them.
use Rattle.std.specs.Prelude.{◌≡◌, ℕ, List, [], ◌∷◌, length, map}
use Rattle.si_base.specs.declared.ids.Event.{Event}
use Rattle.si_base.specs.Graph.{StateGraph, Step, event_place}
use Rattle.si_base.specs.Order.{IsFirst}
use Rattle.si_insert.specs.Accepted.{IsInput}
use Rattle.si_walks.specs.declared.arcs.Arcs.{Arcs}
use Rattle.si_walks.specs.declared.arcs.Arcs.TheVariants.{All, OfInputs}

-- a walk along arcs of that kind takes arcs by e
abbrev pub Takes : StateGraph → Arcs → Event → Type 0
Takes g All e = Unit {0}
Takes g OfInputs e = IsInput g.signals e.sig

-- the events es, one step after another, lead from s to t along arcs of that kind
abbrev pub WalkAlong : StateGraph → Arcs → ℕ → List Event → ℕ → Type 0
WalkAlong g arcs s [] t = s ≡ t
WalkAlong g arcs s (e ∷ es) t =
    (u : ℕ) × Takes g arcs e × Step g s e u × WalkAlong g arcs u es t

-- some walk along arcs of that kind leads from s to t
abbrev pub LeadsAlong : StateGraph → Arcs → ℕ → ℕ → Type 0
LeadsAlong g arcs s t = (es : List Event) × WalkAlong g arcs s es t

-- input events alone lead from s to t
abbrev pub InputsLead : StateGraph → ℕ → ℕ → Type 0
InputsLead g s t = LeadsAlong g OfInputs s t

-- shorter walks come first, and those of one length in the order of their events
abbrev pub walk_place : List Event → List ℕ
walk_place es = length es ∷ map event_place es

-- the first walk along arcs of that kind from s to t: no walk is shorter, and of the shortest it is
-- the least in event order
abbrev pub IsFirstWalk : StateGraph → Arcs → ℕ → ℕ → List Event → Type 0
IsFirstWalk g arcs s t es = IsFirst walk_place (λ fs. WalkAlong g arcs s fs t) es
