-- The states of components, and the events of driven signals.
use Rattle.std.proofs.Common.{◌≡◌, ℕ, zero, suc, ◌+◌, ◌<◌, ◌≤◌, List, [], ◌∷◌, length, get_or}
use Rattle.std.proofs.Common.{take, drop, All, Contains, inl, inr, sym, subst, arith}
use Rattle.std.proofs.lemmas.Bool.{cases_Bool}
use Rattle.std.proofs.lemmas.List.{length-take, length-drop, get_or-take, get_or-drop}
use Rattle.si_base.specs.declared.ids.Event.{Event}
use Rattle.si_base.specs.declared.graph.Signal.{Signal}
use Rattle.si_base.specs.Graph.{IsGraph, rise, fall, is_driven}
use Rattle.si_base.specs.Codes.{CodedGraph}
use Rattle.si_regions.specs.declared.regions.Component.{Component}
use Rattle.si_regions.specs.Regions.{AreComponents, IsRegionComponent}
use Rattle.si_regions.proofs.RegionLemmas.{enables_within}
use Rattle.si_regions.proofs.ComponentLemmas.{entered_within}
use Rattle.si_regions.proofs.RegionComponents.{component_at}
use Rattle.si_candidates.specs.Blocks.{driven_events}

-- ---- the states of components
module _ (c : CodedGraph) (is : IsGraph c.graph) (components : List Component) (are : AreComponents c components)
    (k : ℕ) (r : Component) (inside : k < length components) (at : r ≡ get_or components k r) where
  of_region : IsRegionComponent c r
  of_region = component_at c components k r are inside at

  pub excited_below : (t : ℕ) → Contains r.er t → t < c.graph.states
  excited_below t has =
      let (q, region, same) = of_region in
      enables_within c.graph t q.event is
      (region.excited.members t (subst (λ (x : Component). Contains x.er t) (sym same) has))

  pub switched_below : (t : ℕ) → Contains r.sr t → t < c.graph.states
  switched_below t has =
      let (q, region, same) = of_region in
      entered_within c.graph q.er q.event q.sr t is region.switched
      (subst (λ (x : Component). Contains x.sr t) (sym same) has)

-- ---- events one after another
pub all_taken : (n signals : ℕ) (stops : List Event) → All (λ e. e.sig < signals) stops
    → All (λ e. e.sig < signals) (take n stops)
all_taken n signals stops within k d inside =
    let small : k < n = omega (arith, inside, length-take n stops) in
    let early : k < length stops = omega (arith, inside, length-take n stops) in
    subst (λ (e : Event). e.sig < signals) (sym (get_or-take n stops k d small)) (within k d early)

pub all_dropped : (n signals : ℕ) (stops : List Event) → All (λ e. e.sig < signals) stops
    → All (λ e. e.sig < signals) (drop n stops)
all_dropped n signals stops within k d inside =
    subst (λ (e : Event). e.sig < signals) (sym (get_or-drop n stops k d))
    (within (n + k) d (omega (arith, inside, length-drop n stops)))

-- ---- the events of driven signals
all_none : (n : ℕ) → All (λ (e : Event). e.sig < n) []
all_none n k d inside = absurd (omega arith)

all_cons : (n : ℕ) (x : Event) (xs : List Event) → x.sig < n → All (λ e. e.sig < n) xs → All (λ e. e.sig < n) (x ∷ xs)
all_cons n x xs here rest zero d inside = here
all_cons n x xs here rest (suc k) d inside = rest k d (omega arith)

pub driven_within : (a n : ℕ) (signals : List Signal) → a + length signals ≤ n
    → All (λ e. e.sig < n) (driven_events a signals)
driven_within a n [] below = all_none n
driven_within a n (x ∷ signals) below = elim (cases_Bool (is_driven x.kind)) [
  | inl drives ↦ rw drives (all_cons n (rise a) (fall a ∷ driven_events (a + 1) signals) (omega arith)
      (all_cons n (fall a) (driven_events (a + 1) signals) (omega arith)
      (driven_within (a + 1) n signals (omega arith))))
  | inr input ↦ rw input (driven_within (a + 1) n signals (omega arith))
]
