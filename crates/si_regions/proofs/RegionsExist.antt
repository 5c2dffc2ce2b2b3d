-- Each coded graph has a list of regions.
use Rattle.std.proofs.Common.{◌≡◌, ℕ, zero, suc, ◌+◌, ◌*◌, ◌<◌, Bool, true, false, List, [], ◌∷◌, ◌++◌, length, get_or}
use Rattle.std.proofs.Common.{Contains, IsTrue, refl, sym, subst, ◌∙◌, arith, inl, inr}
use Rattle.std.proofs.lemmas.Bool.{cases_Bool, cases_eq, true≢false}
use Rattle.si_base.specs.declared.ids.Event.{Event}
use Rattle.si_base.specs.declared.graph.Edge.{Edge}
use Rattle.si_base.specs.Bits.{bit}
use Rattle.si_base.specs.Graph.{arc, rise, fall, enables, event_place}
use Rattle.si_base.specs.Codes.{CodedGraph, IsCoded, code}
use Rattle.si_base.proofs.StepCodes.{step_within}
use Rattle.si_graph.specs.declared.closure.Along.TheVariants.{Out, Both}
use Rattle.si_base.specs.Sets.{IsIn}
use Rattle.si_regions.specs.declared.regions.Region.{Region}
use Rattle.si_regions.specs.Connected.{IsComponent}
use Rattle.si_regions.specs.Regions.{Enables, IsSetOf, IsEntered, IsQuiet, IsRegion, AreRegions, opposite}
use Rattle.si_regions.specs.Loops.Searching.{AreMarksOf, RegionsTo}
use Rattle.si_checks.proofs.SearchDecisions.{Decided, both, same_value, some_of, equal_events, less}
use Rattle.si_regions.proofs.SetsExist.{listed, some_set, some_marks, some_reached}
use Rattle.si_regions.proofs.ComponentLemmas.{is_component, is_rest, er_has, entered_within}
use Rattle.si_regions.proofs.RegionLemmas.{AreDone, regions_none, regions_pass, regions_more, regions_event}
use Rattle.si_regions.proofs.RegionLemmas.{regions_all, enables_within, place_below}

-- ---- the region of a state
module _ (c : CodedGraph) (coded : IsCoded c) (e : Event) where
  enabling : (marks : List Bool) × AreMarksOf c.graph (Enables c.graph e) marks
  enabling = some_marks c.graph (Enables c.graph e) (λ s. same_value (enables c.graph s e) true)
      (λ s on. enables_within c.graph s e coded.graph_is on)

  quiet : (s : ℕ) → Decided (IsQuiet c e s)
  quiet s = elim (both (same_value (bit (code c s) e.sig) e.up) (same_value (enables c.graph s (opposite e)) false)) [
    | inl is ↦ inl (record { value = is.0; stays = is.1 })
    | inr none ↦ inr (λ is. none (is.value, is.stays))
  ]

  resting : (marks : List Bool) × AreMarksOf c.graph (λ s. (s < c.graph.states) × IsQuiet c e s) marks
  resting = some_marks c.graph (λ s. (s < c.graph.states) × IsQuiet c e s) (λ s. both (less s c.graph.states) (quiet s))
      (λ s is. is.0)

  -- an arc by e from the set to t
  abbrev Enters : List ℕ → ℕ → Edge → Type 0
  Enters from t a = Contains from a.from × ((a.event ≡ e) × (a.to ≡ t))

  entered_or_not : (from : List ℕ) (t : ℕ) → Decided (IsEntered c.graph from e t)
  entered_or_not from t = elim (some_of (Enters from t)
      (λ a. both (listed from a.from) (both (equal_events a.event e) (cases_eq a.to t))) c.graph.edges) [
        | inl (a, there, is) ↦ inl (
          a.from,
          is.0,
          (
              let by : Contains c.graph.edges (arc a.from e a.to) =
              subst (λ (f : Event). Contains c.graph.edges (arc a.from f a.to)) is.1.0 there in
              subst (λ u. Contains c.graph.edges (arc a.from e u)) is.1.1 by),
        )
        | inr none ↦ inr (λ (s, there, step). none (arc s e t, step, (there, (refl, refl))))
      ]

  entered : (from : List ℕ) → (sr : List ℕ) × IsSetOf (IsEntered c.graph from e) sr
  entered from = some_set c.graph (IsEntered c.graph from e) (entered_or_not from)
      (λ t (s, there, step). (step_within c.graph s e t coded.graph_is step).2)

  -- a component with what the event enters from it is that of a region
  pub some_rest : (er sr : List ℕ) → IsComponent c.graph (Enables c.graph e) er → IsSetOf (IsEntered c.graph er e) sr
      → (qr : List ℕ) × IsRegion c (record { event = e; er = er; sr = sr; qr = qr })
  some_rest er sr excited switched =
      let qr = some_reached c.graph Out resting.0 sr resting.1.size in (
        qr.0,
        record {
          excited = excited;
          switched = switched;
          quiescent = is_rest c e resting.0 sr qr.0 coded.graph_is resting.1 qr.1
              (λ t there. entered_within c.graph er e sr t coded.graph_is switched there);
        },
      )

  pub some_region : (s : ℕ) → IsTrue (enables c.graph s e)
      → (r : Region) × (r.event ≡ e) × IsRegion c r × Contains r.er s
  some_region s on =
      let marks = enabling.1 in
      let here = (marks.exactly s).1 on in
      let er = some_reached c.graph Both enabling.0 (s ∷ []) marks.size in
      let sr = entered er.0 in
      let excited = is_component c.graph e enabling.0 s er.0 marks here er.1 in
      let rest = some_rest er.0 sr.0 excited sr.1 in (
        record { event = e; er = er.0; sr = sr.0; qr = rest.0 },
        refl,
        rest.1,
        er_has c.graph e enabling.0 s er.0 marks here er.1,
      )

-- ---- event by event, and state by state
module _ (c : CodedGraph) (coded : IsCoded c) where
  abbrev Found : ℕ → ℕ → Type 0
  Found k s = (regions : List Region) × RegionsTo c k s regions

  -- t is a state of the event's regions so far
  abbrev Done : Event → List Region → ℕ → Type 0
  Done e regions t = (r : Region) × Contains regions r × (r.event ≡ e) × Contains r.er t

  done_or_not : (e : Event) (regions : List Region) (t : ℕ) → Decided (Done e regions t)
  done_or_not e regions t = elim (some_of (λ (r : Region). (r.event ≡ e) × Contains r.er t)
      (λ r. both (equal_events r.event e) (listed r.er t)) regions) [
        | inl (r, there, is) ↦ inl (r, there, is.0, is.1)
        | inr none ↦ inr (λ (r, there, by, has). none (r, there, (by, has)))
      ]

  done_within : (e : Event) (k s : ℕ) (regions : List Region) → RegionsTo c k s regions → (t : ℕ) → Done e regions t
      → t < c.graph.states
  done_within e k s regions to t (r, there, by, has) =
      enables_within c.graph t r.event coded.graph_is ((to.each r there).0.excited.members t has)

  some_done : (e : Event) (k s : ℕ) (regions : List Region) → RegionsTo c k s regions
      → (done : List Bool) × AreDone e regions done
  some_done e k s regions to =
      let done = some_marks c.graph (Done e regions) (done_or_not e regions) (done_within e k s regions to) in
      (done.0, done.1.exactly)

  found_next : (e : Event) (s : ℕ) → Found (event_place e) s → Found (event_place e) (s + 1)
  found_next e s (regions, to) =
      let done = some_done e (event_place e) s regions to in
      elim (cases_Bool (get_or done.0 s false)) [
        | inl old ↦ (regions, regions_pass c e s regions done.0 done.1 (λ on. old) to)
        | inr fresh ↦ elim (cases_Bool (enables c.graph s e)) [
          | inl on ↦ (
              let r = some_region c coded e s on in
              let is_new : IsIn done.0 s → ⊥ = λ there. true≢false (sym there ∙ fresh) in
              (regions ++ r.0 ∷ [], regions_more c e s regions done.0 r.0 done.1 is_new r.2 r.1 r.3 to))
          | inr off ↦ (
            regions,
            regions_pass c e s regions done.0 done.1 (λ on. absurd (true≢false (sym on ∙ off))) to,
          )
        ]
      ]

  found_to : (e : Event) (s : ℕ) → Found (event_place e) 0 → Found (event_place e) s
  found_to e zero found = found
  found_to e (suc s) found =
      let next : s + 1 ≡ suc s = omega arith in
      subst (Found (event_place e)) next (found_next e s (found_to e s found))

  found_event : (e : Event) → Found (event_place e) 0 → Found (event_place e + 1) 0
  found_event e found =
      let all = found_to e c.graph.states found in (
        all.0,
        regions_event c (event_place e) c.graph.states all.0 (omega arith)
            (λ t f on. enables_within c.graph t f coded.graph_is on) all.1,
      )

  found_signals : (z : ℕ) → Found (2 * z) 0
  found_signals zero = ([], regions_none c)
  found_signals (suc z) =
      let at : ℕ → Type 0 = λ k. Found k 0 in
      let begin : 2 * z ≡ 2 * z + 0 = omega arith in
      let middle : 2 * z + 0 + 1 ≡ 2 * z + 1 = omega arith in
      let end : 2 * z + 1 + 1 ≡ 2 * suc z = omega arith in
      let risen = found_event (rise z) (subst at begin (found_signals z)) in
      subst at end (found_event (fall z) (subst at middle risen))

  pub some_regions : (regions : List Region) × AreRegions c regions
  some_regions =
      let n = length c.graph.signals in
      let all = found_signals n in (
        all.0,
        regions_all c (2 * n) all.0 (λ t e on. place_below c n t e coded.graph_is (omega arith) on) all.1,
      )
