-- (field) Excitation, switching and quiescent regions of events. Source: the book, on excitation
-- and quiescent regions.
use Rattle.std.specs.Prelude.{◌≡◌, ℕ, ◌↔◌, not, false, List, [], ◌∷◌, map, Contains, AllPairs}
use Rattle.std.specs.Prelude.{IsTrue}
use Rattle.std.specs.List.Sorted.{IsStrictlySortedBy}
use Rattle.std.specs.Ordering.{nat_cmp}
use Rattle.si_base.specs.declared.ids.Event.{Event}
use Rattle.si_base.specs.Bits.{bit}
use Rattle.si_base.specs.Order.{Before}
use Rattle.si_base.specs.Graph.{StateGraph, Step, enables, event_place}
use Rattle.si_base.specs.Codes.{CodedGraph, code}
use Rattle.si_regions.specs.declared.regions.Component.{Component}
use Rattle.si_regions.specs.declared.regions.Region.{Region}
use Rattle.si_regions.specs.Connected.{IsComponent}

-- s enables e
abbrev pub Enables : StateGraph → Event → ℕ → Type 0
Enables g e s = IsTrue (enables g s e)

-- the list has just the states of P, in order
pub record IsSetOf (P : ℕ → Type 0) (set : List ℕ) : Type 0 where
  pub in_order : IsStrictlySortedBy nat_cmp set
  pub exactly : (s : ℕ) → Contains set s ↔ P s

-- an arc by e leads from the set to t
abbrev pub IsEntered : StateGraph → List ℕ → Event → ℕ → Type 0
IsEntered g set e t = (s : ℕ) × Contains set s × Step g s e t

-- the same signal in the other direction
abbrev pub opposite : Event → Event
opposite e = record { sig = e.sig; up = not e.up }

-- after e: its signal has the new value, and isn't about to switch back
pub record IsQuiet (c : CodedGraph) (e : Event) (s : ℕ) : Type 0 where
  pub value : bit (code c s) e.sig ≡ e.up
  pub stays : enables c.graph s (opposite e) ≡ false

-- the events, one step after another, lead from s to t through states of P, s and t among them
abbrev pub WalkThrough : StateGraph → (ℕ → Type 0) → ℕ → List Event → ℕ → Type 0
WalkThrough g P s [] t = P s × (s ≡ t)
WalkThrough g P s (e ∷ es) t = P s × (u : ℕ) × Step g s e u × WalkThrough g P u es t

-- such a walk leads from the set to t
pub record IsReachedThrough (g : StateGraph) (P : ℕ → Type 0) (set : List ℕ) (t : ℕ) : Type 0 where
  pub begin : ℕ
  pub there : Contains set begin
  pub events : List Event
  pub walk : WalkThrough g P begin events t

-- a component of the states that enable the event, the states that the event enters from it, and
-- where its signal then rests: the walks begin in entered states that are themselves quiet
pub record IsRegion (c : CodedGraph) (r : Region) : Type 0 where
  pub excited : IsComponent c.graph (Enables c.graph r.event) r.er
  pub switched : IsSetOf (IsEntered c.graph r.er r.event) r.sr
  pub quiescent : IsSetOf (IsReachedThrough c.graph (IsQuiet c r.event) r.sr) r.qr

-- the least state of a set
abbrev pub least : List ℕ → ℕ
least [] = 0
least (s ∷ set) = s

-- regions are ordered by event, then by the least state of the component
abbrev pub region_place : Region → List ℕ
region_place r = event_place r.event ∷ least r.er ∷ []

-- all regions of c, in order
pub record AreRegions (c : CodedGraph) (regions : List Region) : Type 0 where
  pub each : (r : Region) → Contains regions r → IsRegion c r
  pub all : (s : ℕ) (e : Event) → IsTrue (enables c.graph s e)
      → (r : Region) × Contains regions r × (r.event ≡ e) × Contains r.er s
  pub in_order : AllPairs (λ x y. Before (region_place x) (region_place y)) regions

-- ---- regions without their quiescent parts
abbrev pub component_of : Region → Component
component_of r = record { event = r.event; er = r.er; sr = r.sr }

-- some region has these excited and these entered states
abbrev pub IsRegionComponent : CodedGraph → Component → Type 0
IsRegionComponent c x = (r : Region) × IsRegion c r × (component_of r ≡ x)

-- all regions of c in order, without their quiescent parts
pub record AreComponents (c : CodedGraph) (components : List Component) : Type 0 where
  pub regions : List Region
  pub are : AreRegions c regions
  pub components_are : components ≡ map component_of regions
