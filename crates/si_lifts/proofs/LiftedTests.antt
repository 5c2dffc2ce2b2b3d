-- What is accepted for a part is refused for the composed graph for want of room alone: no input waits
-- there, and no event is lost.
use Rattle.std.proofs.Common.{◌≡◌, ℕ, ◌⊎◌, ◌<◌, Bool, true, false, List, refl, sym, ap, ap₂, subst, ◌∙◌, inl, inr}
use Rattle.std.proofs.Common.{IsTrue}
use Rattle.std.proofs.lemmas.Bool.{true≢false}
use Rattle.si_base.specs.declared.ids.Event.{Event}
use Rattle.si_base.specs.declared.graph.Signal.{Signal}
use Rattle.si_base.specs.declared.graph.SigKind.{SigKind}
use Rattle.si_base.specs.declared.graph.SigKind.TheVariants.{Input, Output, Internal, Inserted}
use Rattle.si_base.specs.Graph.{StateGraph, Step, is_driven}
use Rattle.si_base.specs.Codes.{CodedGraph, IsCoded}
use Rattle.si_base.specs.Proper.{IsProper, Loss}
use Rattle.si_base.proofs.StepCodes.{step_within}
use Rattle.si_insert.specs.declared.accept.Rejected.{Rejected}
use Rattle.si_insert.specs.declared.accept.Rejected.TheVariants as why
use Rattle.si_insert.specs.declared.partition.Class.{Class}
use Rattle.si_insert.specs.declared.partition.Class.TheVariants.{Low, Rising, High, Falling}
use Rattle.si_insert.specs.Partition.{class_of, may_lead, IsLawful, Has}
use Rattle.si_insert.specs.Insertion.{waits, has_copy}
use Rattle.si_insert.specs.Accepted.{Delay, IsAccepted, IsInput, ShowsRejected}
use Rattle.si_insert.specs.Loops.Tests.{InputWaits, WaitsAfter}
use Rattle.si_insert.proofs.AcceptedByTests.{accepts_at_tests}
use Rattle.si_insert.proofs.AcceptedLosses.{breaks_if_loses, held_if_delays}
use Rattle.si_compose.specs.Joined.{IsSame}
use Rattle.si_compose.specs.Composed.{Moves, own_event, IsComposed}
use Rattle.si_compose.specs.Lifted.{IsLifted}
use Rattle.si_compose.proofs.SameSignals.{some_same, one_whole, has_or_not}

stays_lawful : (c : Class) → may_lead c c ≡ true
stays_lawful Low = refl
stays_lawful Rising = refl
stays_lawful High = refl
stays_lawful Falling = refl

stays_without_waiting : (c : Class) (b : Bool) → waits c c b ≡ false
stays_without_waiting Low b = refl
stays_without_waiting Rising b = refl
stays_without_waiting High b = refl
stays_without_waiting Falling b = refl

input_or_driven : (kind : SigKind) → (kind ≡ Input) ⊎ IsTrue (is_driven kind)
input_or_driven Input = inl refl
input_or_driven Output = inr refl
input_or_driven Internal = inr refl
input_or_driven Inserted = inr refl

-- a reason of which the graph's behaviour knows nothing
abbrev pub IsWantOfRoom : Rejected → Type 0
IsWantOfRoom (why.DelaysInput s e) = ⊥
IsWantOfRoom (why.BreaksPersistency s lost by) = ⊥
IsWantOfRoom (why.TooLarge count) = Unit {0}
IsWantOfRoom why.NoCodeBit = Unit {0}

module _ (count : ℕ) (graphs : ℕ → CodedGraph) (at : ℕ → ℕ → ℕ) (h : CodedGraph) (i : ℕ) (own whole : List Class)
    (inside : i < count) (coded : IsCoded (graphs i)) (proper : IsProper (graphs i).graph)
    (composed : IsComposed count (λ j. (graphs j).graph) at h.graph) (is : IsCoded h) (whole_proper : IsProper h.graph)
    (accepted : IsAccepted (graphs i).graph own) (lifted : IsLifted at h.graph i own whole) where
  abbrev g : StateGraph
  g = (graphs i).graph

  no_wait : (d : Delay) → InputWaits g own d → ⊥
  no_wait = ((accepts_at_tests (graphs i) own coded proper accepted.lawful).0 accepted).0

  no_loss : (b : Loss) → WaitsAfter g own b → ⊥
  no_loss = ((accepts_at_tests (graphs i) own coded proper accepted.lawful).0 accepted).1

  class_from : (s : ℕ) (e : Event) (t : ℕ) → Step h.graph s e t → class_of whole s ≡ class_of own (at i s)
  class_from s e t step = lifted.classes s (step_within h.graph s e t is.graph_is step).0

  class_to : (s : ℕ) (e : Event) (t : ℕ) → Step h.graph s e t → class_of whole t ≡ class_of own (at i t)
  class_to s e t step = lifted.classes t (step_within h.graph s e t is.graph_is step).2

  moves : (s : ℕ) (e : Event) (t : ℕ) → Step h.graph s e t → Moves h.graph g (at i s) e (at i t)
  moves s e t step = composed.moves s e t step i inside

  -- an arc waits in the whole just where it waits in the part
  waits_in_part : (s : ℕ) (e : Event) (t : ℕ) (b v : Bool) → Step h.graph s e t
      → waits (class_of whole s) (class_of whole t) b ≡ v → waits (class_of own (at i s)) (class_of own (at i t)) b ≡ v
  waits_in_part s e t b v step late =
      ap₂ (λ x y. waits x y b) (sym (class_from s e t step)) (sym (class_to s e t step)) ∙ late

  -- what waits is an event of the part
  waiting_is_own : (s : ℕ) (e : Event) (t : ℕ) (b : Bool) → Step h.graph s e t
      → waits (class_of whole s) (class_of whole t) b ≡ true → (z : ℕ) × IsSame h.graph.signals e.sig g.signals z
  waiting_is_own s e t b step late = elim (has_or_not h.graph.signals e.sig g.signals) [
    | inl found ↦ found
    | inr none ↦ absurd (true≢false (sym (waits_in_part s e t b true step late)
        ∙ ap (λ (v : ℕ). waits (class_of own (at i s)) (class_of own v) b) ((moves s e t step).stays none)
        ∙ stays_without_waiting (class_of own (at i s)) b))
  ]

  pub lifted_lawful : Has h.graph whole Rising → Has h.graph whole Falling → IsLawful h.graph whole
  lifted_lawful rises falls = record {
    count = lifted.count;
    rises = rises;
    falls = falls;
    arcs = λ s e t step. ap₂ may_lead (class_from s e t step) (class_to s e t step) ∙ leads s e t step;
  }
    where
      leads : (s : ℕ) (e : Event) (t : ℕ) → Step h.graph s e t
          → may_lead (class_of own (at i s)) (class_of own (at i t)) ≡ true
      leads s e t step = elim (has_or_not h.graph.signals e.sig g.signals) [
        | inl found ↦ accepted.lawful.arcs (at i s) (own_event e found.0) (at i t)
            ((moves s e t step).steps found.0 found.1)
        | inr none ↦ ap (λ (v : ℕ). may_lead (class_of own (at i s)) (class_of own v)) ((moves s e t step).stays none)
            ∙ stays_lawful (class_of own (at i s))
      ]

  -- an input of the part doesn't wait, whoever drives it in the whole
  own_input_goes : (s : ℕ) (e : Event) (t z : ℕ) (b : Bool) → Step h.graph s e t
      → (same : IsSame h.graph.signals e.sig g.signals z) → same.own.kind ≡ Input
      → waits (class_of whole s) (class_of whole t) b ≡ true → ⊥
  own_input_goes s e t z b step same input late =
      no_wait (record { s = at i s; e = own_event e z }) (record {
        input = (same.own, same.own_is, input);
        to = at i t;
        step = (moves s e t step).steps z same;
        value = b;
        late = waits_in_part s e t b true step late;
      })

  no_input_waits : (d : Delay) → InputWaits h.graph whole d → ⊥
  no_input_waits d w =
      let found = waiting_is_own d.s d.e w.to w.value w.step w.late in
      let same : IsSame h.graph.signals d.e.sig g.signals found.0 = found.1 in
      let input : IsInput h.graph.signals d.e.sig = w.input in
      let signals : input.0 ≡ same.signal = some_same input.0 same.signal (sym input.1 ∙ same.signal_is) in
      elim (input_or_driven same.own.kind) [
        | inl own_input ↦ own_input_goes d.s d.e w.to found.0 w.value w.step same own_input w.late
        | inr driven ↦ (
            let kinds : same.own.kind ≡ Input = sym (composed.signals.kind i d.e.sig found.0 inside (same, driven))
            ∙ sym (ap (λ (x : Signal). x.kind) signals) ∙ input.2 in
            true≢false (sym driven ∙ ap is_driven kinds))
      ]

  one_event : (e f : Event) (z y : ℕ) → z ≡ y → e.up ≡ f.up → IsSame h.graph.signals e.sig g.signals z
      → IsSame h.graph.signals f.sig g.signals y → e ≡ f
  one_event e f z y places ups a b =
      let make : ℕ → Bool → Event = λ x q. record { sig = x; up = q } in
      ap₂ make (one_whole h.graph.signals g.signals e.sig f.sig y composed.signals.distinct
      (subst (λ q. IsSame h.graph.signals e.sig g.signals q) places a) b) ups

  -- a driven event of the part, after an event of the part
  own_loss : (b : Loss) (w : WaitsAfter h.graph whole b) (z y : ℕ)
      → (same : IsSame h.graph.signals b.lost.sig g.signals z) → IsTrue (is_driven same.own.kind)
      → IsSame h.graph.signals b.by.sig g.signals y → ⊥
  own_loss b w z y same driven by =
      no_loss (record { s = at i b.s; lost = own_event b.lost z; by = own_event b.by y }) (record {
        non_input = (same.own, same.own_is, driven);
        apart = λ equal. w.apart (one_event b.lost b.by z y (ap (λ (d : Event). d.sig) equal)
            (ap (λ (d : Event). d.up) equal) same by);
        value = w.value;
        has = ap (λ (c : Class). has_copy c w.value) (sym (class_from b.s b.lost w.t w.first)) ∙ w.has;
        t = at i w.t;
        first = (moves b.s b.lost w.t w.first).steps z same;
        first_goes = waits_in_part b.s b.lost w.t w.value false w.first w.first_goes;
        u = at i w.u;
        other = (moves b.s b.by w.u w.other).steps y by;
        other_goes = waits_in_part b.s b.by w.u w.value false w.other w.other_goes;
        w = at i w.w;
        next = (moves w.u b.lost w.w w.next).steps z same;
        late = waits_in_part w.u b.lost w.w w.value true w.next w.late;
      })

  -- an event of others moves no state of the part
  unmoved_loss : (b : Loss) (w : WaitsAfter h.graph whole b) (z : ℕ)
      → (same : IsSame h.graph.signals b.lost.sig g.signals z)
      → ((y : ℕ) → IsSame h.graph.signals b.by.sig g.signals y → ⊥) → ⊥
  unmoved_loss b w z same none =
      let stays : at i w.u ≡ at i b.s = (moves b.s b.by w.u w.other).stays none in
      let again : Step g (at i b.s) (own_event b.lost z) (at i w.w) =
      subst (λ v. Step g v (own_event b.lost z) (at i w.w)) stays ((moves w.u b.lost w.w w.next).steps z same) in
      let one : at i w.w ≡ at i w.t = proper.deterministic (at i b.s) (own_event b.lost z) (at i w.w) (at i w.t)
      again ((moves b.s b.lost w.t w.first).steps z same) in
      let late = waits_in_part w.u b.lost w.w w.value true w.next w.late in
      let goes = waits_in_part b.s b.lost w.t w.value false w.first w.first_goes in
      true≢false (sym late ∙ ap₂ (λ (x y : ℕ). waits (class_of own x) (class_of own y) w.value) stays one ∙ goes)

  none_waits_after : (b : Loss) → WaitsAfter h.graph whole b → ⊥
  none_waits_after b w =
      let found = waiting_is_own w.u b.lost w.w w.value w.next w.late in
      let same : IsSame h.graph.signals b.lost.sig g.signals found.0 = found.1 in
      elim (input_or_driven same.own.kind) [
        | inl own_input ↦ own_input_goes w.u b.lost w.w found.0 w.value w.next same own_input w.late
        | inr driven ↦ elim (has_or_not h.graph.signals b.by.sig g.signals) [
          | inl by ↦ own_loss b w found.0 by.0 same driven by.1
          | inr none ↦ unmoved_loss b w found.0 same none
        ]
      ]

  -- so only room can be wanting
  pub want_of_room : IsLawful h.graph whole → (first : Rejected) → ShowsRejected h.graph whole first
      → IsWantOfRoom first
  want_of_room lawful (why.DelaysInput s e) shows =
      absurd (no_input_waits (record { s = s; e = e })
      (held_if_delays h.graph whole (record { s = s; e = e }) is.graph_is lawful shows.holds))
  want_of_room lawful (why.BreaksPersistency s lost by) shows =
      let b : Loss = record { s = s; lost = lost; by = by } in
      absurd (none_waits_after b (breaks_if_loses h.graph whole b is.graph_is whole_proper.persistent lawful
      shows.1.holds))
  want_of_room lawful (why.TooLarge count) shows = tt
  want_of_room lawful why.NoCodeBit shows = tt
