-- A partition that is accepted for a part is accepted for the composed graph.
use Rattle.std.proofs.Common.{◌≡◌, ℕ, ◌⊎◌, ◌<◌, ◌≤◌, Bool, true, false, List, refl, sym, ap, ap₂, subst, ◌∙◌}
use Rattle.std.proofs.Common.{inl, inr, length, IsTrue}
use Rattle.std.proofs.lemmas.Bool.{true≢false}
use Rattle.si_base.specs.declared.ids.Event.{Event}
use Rattle.si_base.specs.declared.graph.Signal.{Signal}
use Rattle.si_base.specs.declared.graph.SigKind.{SigKind}
use Rattle.si_base.specs.declared.graph.SigKind.TheVariants.{Input, Output, Internal, Inserted}
use Rattle.si_base.specs.Graph.{StateGraph, Step, is_driven}
use Rattle.si_base.specs.Codes.{CodedGraph, IsCoded}
use Rattle.si_base.specs.Limits.{max_signals, max_states}
use Rattle.si_base.specs.Proper.{IsProper, Loss}
use Rattle.si_base.proofs.StepCodes.{step_within}
use Rattle.si_insert.specs.declared.partition.Class.{Class}
use Rattle.si_insert.specs.declared.partition.Class.TheVariants.{Low, Rising, High, Falling}
use Rattle.si_insert.specs.Partition.{class_of, may_lead, IsLawful, Has}
use Rattle.si_insert.specs.Insertion.{waits, has_copy}
use Rattle.si_insert.specs.Accepted.{IsInput, IsAccepted, copy_count, Delay}
use Rattle.si_insert.specs.Loops.Tests.{InputWaits, WaitsAfter}
use Rattle.si_insert.proofs.AcceptedByTests.{accepts_at_tests}
use Rattle.si_compose.specs.Joined.{IsSame}
use Rattle.si_compose.specs.Composed.{Moves, own_event, IsComposed}
use Rattle.si_compose.specs.Lifted.{IsLifted}
use Rattle.si_compose.proofs.SameSignals.{some_same, one_whole, has_or_not}

stay_lawful : (c : Class) → may_lead c c ≡ true
stay_lawful Low = refl
stay_lawful Rising = refl
stay_lawful High = refl
stay_lawful Falling = refl

stay_goes : (c : Class) (b : Bool) → waits c c b ≡ false
stay_goes Low b = refl
stay_goes Rising b = refl
stay_goes High b = refl
stay_goes Falling b = refl

input_or_driven : (kind : SigKind) → (kind ≡ Input) ⊎ IsTrue (is_driven kind)
input_or_driven Input = inl refl
input_or_driven Output = inr refl
input_or_driven Internal = inr refl
input_or_driven Inserted = inr refl

module _ (count : ℕ) (graphs : ℕ → CodedGraph) (at : ℕ → ℕ → ℕ) (h : CodedGraph) (i : ℕ) (own whole : List Class)
    (inside : i < count) (coded : IsCoded (graphs i)) (proper : IsProper (graphs i).graph)
    (composed : IsComposed count (λ j. (graphs j).graph) at h.graph) (is : IsCoded h) (whole_proper : IsProper h.graph)
    (range : (s : ℕ) → s < h.graph.states → at i s < (graphs i).graph.states)
    (accepted : IsAccepted (graphs i).graph own) (lifted : IsLifted at h.graph i own whole)
    (rises : Has h.graph whole Rising) (falls : Has h.graph whole Falling) (room : copy_count whole ≤ max_states)
    (few : length h.graph.signals < max_signals) where
  abbrev g : StateGraph
  g = (graphs i).graph

  tests : ((d : Delay) → InputWaits g own d → ⊥) × ((b : Loss) → WaitsAfter g own b → ⊥)
      × (copy_count own ≤ max_states) × (length g.signals < max_signals)
  tests = (accepts_at_tests (graphs i) own coded proper accepted.lawful).0 accepted

  source : (s : ℕ) (e : Event) (t : ℕ) → Step h.graph s e t → class_of whole s ≡ class_of own (at i s)
  source s e t step = lifted.classes s (step_within h.graph s e t is.graph_is step).0

  target : (s : ℕ) (e : Event) (t : ℕ) → Step h.graph s e t → class_of whole t ≡ class_of own (at i t)
  target s e t step = lifted.classes t (step_within h.graph s e t is.graph_is step).2

  moves : (s : ℕ) (e : Event) (t : ℕ) → Step h.graph s e t → Moves h.graph g (at i s) e (at i t)
  moves s e t step = composed.moves s e t step i inside

  -- an arc waits in the whole just where it waits in the part
  waits_own : (s : ℕ) (e : Event) (t : ℕ) (b v : Bool) → Step h.graph s e t
      → waits (class_of whole s) (class_of whole t) b ≡ v → waits (class_of own (at i s)) (class_of own (at i t)) b ≡ v
  waits_own s e t b v step late =
      ap₂ (λ x y. waits x y b) (sym (source s e t step)) (sym (target s e t step)) ∙ late

  -- what waits is an event of the part
  late_has : (s : ℕ) (e : Event) (t : ℕ) (b : Bool) → Step h.graph s e t
      → waits (class_of whole s) (class_of whole t) b ≡ true → (z : ℕ) × IsSame h.graph.signals e.sig g.signals z
  late_has s e t b step late = elim (has_or_not h.graph.signals e.sig g.signals) [
    | inl found ↦ found
    | inr none ↦ absurd (true≢false (sym (waits_own s e t b true step late)
        ∙ ap (λ (v : ℕ). waits (class_of own (at i s)) (class_of own v) b) ((moves s e t step).stays none)
        ∙ stay_goes (class_of own (at i s)) b))
  ]

  lawful : IsLawful h.graph whole
  lawful = record {
    count = lifted.count;
    rises = rises;
    falls = falls;
    arcs = λ s e t step. ap₂ may_lead (source s e t step) (target s e t step) ∙ leads s e t step;
  }
    where
      leads : (s : ℕ) (e : Event) (t : ℕ) → Step h.graph s e t
          → may_lead (class_of own (at i s)) (class_of own (at i t)) ≡ true
      leads s e t step = elim (has_or_not h.graph.signals e.sig g.signals) [
        | inl found ↦ accepted.lawful.arcs (at i s) (own_event e found.0) (at i t)
            ((moves s e t step).steps found.0 found.1)
        | inr none ↦ ap (λ (v : ℕ). may_lead (class_of own (at i s)) (class_of own v)) ((moves s e t step).stays none)
            ∙ stay_lawful (class_of own (at i s))
      ]

  -- an input of the part doesn't wait, whoever drives it in the whole
  own_input_goes : (s : ℕ) (e : Event) (t z : ℕ) (b : Bool) → Step h.graph s e t
      → (same : IsSame h.graph.signals e.sig g.signals z) → same.own.kind ≡ Input
      → waits (class_of whole s) (class_of whole t) b ≡ true → ⊥
  own_input_goes s e t z b step same input late =
      tests.0 (record { s = at i s; e = own_event e z }) (record {
        input = (same.own, same.own_is, input);
        to = at i t;
        step = (moves s e t step).steps z same;
        value = b;
        late = waits_own s e t b true step late;
      })

  no_input_waits : (d : Delay) → InputWaits h.graph whole d → ⊥
  no_input_waits d w =
      let found = late_has d.s d.e w.to w.value w.step w.late in
      let same : IsSame h.graph.signals d.e.sig g.signals found.0 = found.1 in
      let input : IsInput h.graph.signals d.e.sig = w.input in
      let signals : input.0 ≡ same.signal = some_same input.0 same.signal (sym input.1 ∙ same.signal_is) in
      elim (input_or_driven same.own.kind) [
        | inl own_input ↦ own_input_goes d.s d.e w.to found.0 w.value w.step same own_input w.late
        | inr driven ↦ (
            let kinds : same.own.kind ≡ Input = sym (composed.signals.kind i d.e.sig found.0 inside (same, driven))
            ∙ sym (ap (λ (x : Signal). x.kind) signals) ∙ input.2 in
            true≢false (sym driven ∙ ap is_driven kinds))
      ]

  none_waits_after : (b : Loss) → WaitsAfter h.graph whole b → ⊥
  none_waits_after b w =
      let found = late_has w.u b.lost w.w w.value w.next w.late in
      let z = found.0 in
      let same : IsSame h.graph.signals b.lost.sig g.signals z = found.1 in
      elim (input_or_driven same.own.kind) [
        | inl own_input ↦ own_input_goes w.u b.lost w.w z w.value w.next same own_input w.late
        | inr driven ↦ elim (has_or_not h.graph.signals b.by.sig g.signals) [
          | inl by ↦ tests.1 (record { s = at i b.s; lost = own_event b.lost z; by = own_event b.by by.0 }) (record {
            non_input = (same.own, same.own_is, driven);
            apart = λ equal. w.apart (one_event b.lost b.by z by.0 (ap (λ (d : Event). d.sig) equal)
                (ap (λ (d : Event). d.up) equal) same by.1);
            value = w.value;
            has = ap (λ (c : Class). has_copy c w.value) (sym (source b.s b.lost w.t w.first)) ∙ w.has;
            t = at i w.t;
            first = (moves b.s b.lost w.t w.first).steps z same;
            first_goes = waits_own b.s b.lost w.t w.value false w.first w.first_goes;
            u = at i w.u;
            other = (moves b.s b.by w.u w.other).steps by.0 by.1;
            other_goes = waits_own b.s b.by w.u w.value false w.other w.other_goes;
            w = at i w.w;
            next = (moves w.u b.lost w.w w.next).steps z same;
            late = waits_own w.u b.lost w.w w.value true w.next w.late;
          })
          | inr none ↦ (
              let stays : at i w.u ≡ at i b.s = (moves b.s b.by w.u w.other).stays none in
              let again : Step g (at i b.s) (own_event b.lost z) (at i w.w) =
              subst (λ v. Step g v (own_event b.lost z) (at i w.w)) stays
              ((moves w.u b.lost w.w w.next).steps z same) in
              let one : at i w.w ≡ at i w.t = proper.deterministic (at i b.s) (own_event b.lost z) (at i w.w) (at i w.t)
              again ((moves b.s b.lost w.t w.first).steps z same) in
              let late = waits_own w.u b.lost w.w w.value true w.next w.late in
              let goes = waits_own b.s b.lost w.t w.value false w.first w.first_goes in
              true≢false (sym late
              ∙ ap₂ (λ (x y : ℕ). waits (class_of own x) (class_of own y) w.value) stays one ∙ goes))
        ]
      ]
    where
      one_event : (e f : Event) (z y : ℕ) → z ≡ y → e.up ≡ f.up → IsSame h.graph.signals e.sig g.signals z
          → IsSame h.graph.signals f.sig g.signals y → e ≡ f
      one_event e f z y places ups a b =
          let make : ℕ → Bool → Event = λ x q. record { sig = x; up = q } in
          ap₂ make (one_whole h.graph.signals g.signals e.sig f.sig y composed.signals.distinct
          (subst (λ q. IsSame h.graph.signals e.sig g.signals q) places a) b) ups

  pub lifted_is_accepted : IsAccepted h.graph whole
  lifted_is_accepted =
      (accepts_at_tests h whole is whole_proper lawful).1 (no_input_waits, none_waits_after, room, few)
