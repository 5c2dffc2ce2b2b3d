-- The numbers of components: regions of one event stand together. And what the words of regions name is there.
use Rattle.std.proofs.Common.{◌≡◌, ℕ, suc, ◌+◌, ◌-◌, ◌<◌, ◌≤◌, Bool, false, cond, List, [], ◌∷◌, ◌++◌, length, take}
use Rattle.std.proofs.Common.{get_or, count_by, Contains, AllPairs, refl, sym, ap, subst, ◌∙◌, arith, inl, inr}
use Rattle.std.proofs.lemmas.Bool.{cases_Bool, cases_eq}
use Rattle.std.proofs.lemmas.List.{get_or_default, get_or-take, take_more, length-take-le}
use Rattle.std.proofs.lemmas.List.Sums.{sum_by-cons, sum_by_push}
use Rattle.si_base.specs.declared.ids.Event.{Event}
use Rattle.si_base.specs.Order.{Before}
use Rattle.si_base.specs.Graph.{StateGraph, IsGraph, event_place, same_event}
use Rattle.si_base.specs.Codes.{CodedGraph, IsCoded}
use Rattle.si_base.proofs.StepCodes.{step_within}
use Rattle.si_base.proofs.GraphSteps.{same_event-refl, same_event-true, step_from_enables}
use Rattle.si_base.proofs.Booleans.{one_if}
use Rattle.si_graph.proofs.OrderLemmas.{event_from_place}
use Rattle.si_regions.specs.declared.regions.Region.{Region}
use Rattle.si_regions.specs.Regions.{IsRegion, WalkThrough, region_place}
use Rattle.si_regions.proofs.ComponentLemmas.{entered_within}
use Rattle.si_regions.proofs.RegionLemmas.{enables_within}
use Rattle.si_regions.proofs.StateLists.{all_below}
use Rattle.si_listings.specs.RegionText.{number_after, IsWithinNames, RepeatsEvent}

-- ---- numbers
-- the number of the region before the k-th, or 0 where there is none
pub record IsNumber (regions : List Region) (k number : ℕ) : Type 0 where
  pub none : k ≡ 0 → number ≡ 0
  pub some : (j : ℕ) (r : Region) → k ≡ j + 1 → r ≡ get_or regions j r → number ≡ number_after (take j regions) r

none_counted : {A : Type 0} (f : A → Bool) (xs : List A) → ((j : ℕ) (d : A) → j < length xs → f (get_or xs j d) ≡ false)
    → count_by f xs ≡ 0
none_counted f [] none = refl
none_counted f (x ∷ xs) none =
    let rest = none_counted f xs (λ j d within. none (suc j) d (omega arith)) in
    let first = sum_by-cons (λ y. cond (f y) 1 0) x xs in
    let here = ap one_if (none 0 x (omega arith)) in
    omega (arith, rest, first, here)

module _ (regions : List Region) (k : ℕ) (r : Region) (inside : k < length regions) (at : r ≡ get_or regions k r) where
  abbrev last : ℕ
  last = k - 1

  -- the region before
  abbrev before : Region
  before = get_or regions last r

  abbrev is_of : Event → Region → Bool
  is_of e x = same_event x.event e

  pub goes_on_number : (number : ℕ) → IsNumber regions k number → RepeatsEvent regions k
      → number + 1 ≡ number_after (take k regions) r
  goes_on_number number is on =
      let next : k ≡ last + 1 = (let l = on.later in omega arith) in
      let below : last < length regions = omega arith in
      let so_far : number ≡ number_after (take last regions) before =
      is.some last before next (get_or_default regions last r before below) in
      let same : before.event ≡ r.event = on.same r ∙ ap (λ (x : Region). x.event) (sym at) in
      let counted : number_after (take last regions) before ≡ count_by (is_of r.event) (take last regions) + 1 =
      ap (λ (e : Event). count_by (is_of e) (take last regions) + 1) same in
      let whole : take k regions ≡ take last regions ++ before ∷ [] =
      ap (λ n. take n regions) next ∙ take_more regions last r below in
      let more = ap (λ (l : List Region). count_by (is_of r.event) l) whole in
      let one = sum_by_push (λ x. cond (is_of r.event x) 1 0) (take last regions) before in
      let plus = ap one_if (ap (λ (e : Event). same_event e r.event) same ∙ same_event-refl r.event) in
      omega (arith, so_far, counted, more, one, plus)

  pub first_number : AllPairs (λ x y. Before (region_place x) (region_place y)) regions → (RepeatsEvent regions k → ⊥)
      → 1 ≡ number_after (take k regions) r
  first_number order off = (let none = none_counted (is_of r.event) (take k regions) earlier in omega (arith, none))
    where
      place_le : (x y : Region) → Before (region_place x) (region_place y) → event_place x.event ≤ event_place y.event
      place_le x y (inl less) = omega arith
      place_le x y (inr same) = omega (arith, same.0)

      goes_on : 0 < k → before.event ≡ r.event → RepeatsEvent regions k
      goes_on later same = record {
        later = later;
        same = λ d. ap (λ (x : Region). x.event) (get_or_default regions last d r (omega arith)) ∙ same
            ∙ ap (λ (x : Region). x.event) (at ∙ get_or_default regions k r d inside);
      }

      apart : (j : ℕ) (d : Region) → j < k → (get_or regions j d).event ≡ r.event → ⊥
      apart j d below same = elim (cases_eq j last) [
        | inl is ↦ off (goes_on (omega arith) (ap (λ (x : Region). x.event)
            (get_or_default regions last r d (omega arith))
            ∙ ap (λ i. (get_or regions i d).event) (sym is) ∙ same))
        | inr other ↦ (
            let one = place_le (get_or regions j r) before (order j last r (omega arith) (omega arith)) in
            let two = place_le before (get_or regions k r) (order last k r (omega arith) inside) in
            let from : event_place (get_or regions j r).event ≡ event_place r.event =
            ap (λ (x : Region). event_place x.event) (get_or_default regions j r d (omega arith)) ∙ ap event_place same
            in
            let to : event_place (get_or regions k r).event ≡ event_place r.event =
            ap (λ (x : Region). event_place x.event) (sym at) in
            let equal : event_place before.event ≡ event_place r.event = omega (arith, one, two, from, to) in
            off (goes_on (omega arith) (event_from_place before.event r.event equal)))
      ]

      earlier : (j : ℕ) (d : Region) → j < length (take k regions) → is_of r.event (get_or (take k regions) j d) ≡ false
      earlier j d within =
          let size = length-take-le k regions (omega arith) in
          let below : j < k = omega (arith, size) in
          let is = get_or-take k regions j d below in
          elim (cases_Bool (is_of r.event (get_or regions j d))) [
            | inl same ↦ absurd (apart j d below (same_event-true (get_or regions j d).event r.event same))
            | inr none ↦ ap (is_of r.event) is ∙ none
          ]

  pub number_next : (number : ℕ) → number ≡ number_after (take k regions) r → IsNumber regions (k + 1) number
  number_next number is = record {
    none = λ zero_is. absurd (omega (arith, zero_is));
    some = λ j x next there. (
        let same : j ≡ k = omega (arith, next) in
        let x_is : x ≡ r =
        there ∙ ap (λ i. get_or regions i x) same ∙ get_or_default regions k x r inside ∙ sym at in
        let P : Region → Type 0 = λ y. number ≡ number_after (take j regions) y in
        let Q : ℕ → Type 0 = λ i. number ≡ number_after (take i regions) r in
        subst P (sym x_is) (subst Q (sym same) is));
  }

-- ---- what the words name is there
walk_within : (g : StateGraph) (P : ℕ → Type 0) (s : ℕ) (es : List Event) (t : ℕ) → IsGraph g → s < g.states
    → WalkThrough g P s es t → t < g.states
walk_within g P s [] t graph within walk = subst (λ x. x < g.states) walk.1 within
walk_within g P s (e ∷ es) t graph within (here, u, step, rest) =
    walk_within g P u es t graph (step_within g s e u graph step).2 rest

pub names_within : (c : CodedGraph) (states : List (List ℕ)) (r : Region) → IsCoded c → length states ≡ c.graph.states
    → IsRegion c r → IsWithinNames states r
names_within c states r coded size is =
    let entered : (t : ℕ) → Contains r.sr t → t < c.graph.states =
    λ t there. entered_within c.graph r.er r.event r.sr t coded.graph_is is.switched there in
    record {
      excited = all_below r.er r.er (length states) refl (λ t there. (
          let within = enables_within c.graph t r.event coded.graph_is (is.excited.members t there) in
          omega (arith, within, size)));
      switched = all_below r.sr r.sr (length states) refl
          (λ t there. (let within = entered t there in omega (arith, within, size)));
      quiescent = all_below r.qr r.qr (length states) refl (λ t there. (
          let walk = (is.quiescent.exactly t).0 there in
          let within = walk_within c.graph _ walk.begin walk.events t coded.graph_is (entered walk.begin walk.there)
          walk.walk in
          omega (arith, within, size)));
    }

pub event_within : (c : CodedGraph) (r : Region) → IsCoded c → IsRegion c r → r.event.sig < length c.graph.signals
event_within c r coded is =
    let some = is.excited.some in
    let step = step_from_enables c.graph some.0 r.event (is.excited.members some.0 some.1) in
    (step_within c.graph some.0 r.event step.0 coded.graph_is step.1).1
