-- What a search for regions reaches, and how far the regions are found.
use Rattle.std.specs.Prelude.{◌≡◌, ℕ, ◌<◌, ◌↔◌, Bool, List, [], ◌∷◌, length, map, Contains}
use Rattle.std.specs.Prelude.{AllPairs, IsTrue, Some}
use Rattle.si_base.specs.declared.ids.Event.{Event}
use Rattle.si_base.specs.Order.{Before}
use Rattle.si_base.specs.Graph.{StateGraph, enables, event_place}
use Rattle.si_base.specs.Codes.{CodedGraph}
use Rattle.si_graph.specs.declared.closure.Along.{Along}
use Rattle.si_graph.specs.Closure.{IsNext, IsReachedBy}
use Rattle.si_base.specs.Sets.{IsIn}
use Rattle.si_graph.specs.Loops.Search.{Progress}
use Rattle.si_regions.specs.declared.regions.Component.{Component}
use Rattle.si_regions.specs.declared.regions.Region.{Region}
use Rattle.si_regions.specs.declared.regions.Rests.{Rests}
use Rattle.si_regions.specs.Regions.{IsQuiet, IsRegion, component_of, region_place}

-- the marks are those of the states of g that have P
pub record AreMarksOf (g : StateGraph) (P : ℕ → Type 0) (marks : List Bool) : Type 0 where
  pub size : length marks ≡ g.states
  pub exactly : (s : ℕ) → IsIn marks s ↔ P s

-- a seed that is in the set
abbrev pub IsSeed : List Bool → List ℕ → ℕ → Type 0
IsSeed within seeds s = Contains seeds s × IsIn within s

-- a path through the set leads from such a seed to t
abbrev pub IsReachedIn : StateGraph → Along → List Bool → List ℕ → ℕ → Type 0
IsReachedIn g along within seeds t = IsReachedBy (IsNext g along within) (IsSeed within seeds) t

-- a search among so many states that has reached none of them
pub record IsIdle (states : ℕ) (search : Progress) : Type 0 where
  pub size : length search.marks ≡ states
  pub none : (t : ℕ) → IsIn search.marks t → ⊥
  pub rests : search.work ≡ []

-- the regions of events and least states before the place k and s, in order
pub record RegionsTo (c : CodedGraph) (k s : ℕ) (regions : List Region) : Type 0 where
  pub each : (r : Region) → Contains regions r
      → IsRegion c r × Before (region_place r) (k ∷ s ∷ [])
  pub all : (t : ℕ) (e : Event) → IsTrue (enables c.graph t e)
      → Before (event_place e ∷ t ∷ []) (k ∷ s ∷ [])
      → (r : Region) × Contains regions r × (r.event ≡ e) × Contains r.er t
  pub in_order : AllPairs (λ x y. Before (region_place x) (region_place y)) regions

-- the same regions without their quiescent parts
pub record ComponentsTo (c : CodedGraph) (k s : ℕ) (components : List Component) : Type 0 where
  pub regions : List Region
  pub to : RegionsTo c k s regions
  pub components_are : components ≡ map component_of regions

-- the states in which the signal rests after the event
abbrev pub AreRestsAfter : CodedGraph → Event → List Bool → Type 0
AreRestsAfter c e states = AreMarksOf c.graph (λ t. (t < c.graph.states) × IsQuiet c e t) states

-- those after the event at hand, if there is one
abbrev pub AreRests : CodedGraph → Rests → Type 0
AreRests c rests = (e : Event) → rests.after ≡ Some e → AreRestsAfter c e rests.states
