-- A lawful partition is accepted, or there is a first reason against it.
use Rattle.std.proofs.Common.{◌≡◌, ◌≢◌, ℕ, ◌⊎◌, Bool, true, false, List, length, Contains, Option, Some, None, refl}
use Rattle.std.proofs.Common.{subst, inl, inr}
use Rattle.std.proofs.lemmas.Bool.{cases_eq, cases_lt}
use Rattle.si_base.specs.declared.ids.Event.{Event}
use Rattle.si_base.specs.declared.graph.Edge.{Edge}
use Rattle.si_base.specs.Codes.{CodedGraph, IsCoded}
use Rattle.si_base.specs.Graph.{StateGraph, IsNonInput, Step, arc}
use Rattle.si_base.specs.Limits.{max_signals, max_states}
use Rattle.si_base.specs.Proper.{IsProper, Loss, loss_place}
use Rattle.si_checks.specs.Loops.Searches.{IsFirstOrNone}
use Rattle.si_checks.proofs.SearchDecisions as decide
use Rattle.si_checks.proofs.SearchDecisions.{Decided, both, driven, equal_events, first_candidate, in_pairs, of_pairs}
use Rattle.si_checks.proofs.SearchDecisions.{pairs, same_value}
use Rattle.si_insert.specs.declared.partition.Class.{Class}
use Rattle.si_insert.specs.declared.accept.Rejected.{Rejected}
use Rattle.si_insert.specs.declared.accept.Rejected.TheVariants.{DelaysInput, BreaksPersistency, TooLarge, NoCodeBit}
use Rattle.si_insert.specs.Partition.{class_of, IsLawful}
use Rattle.si_insert.specs.Insertion.{has_copy, waits}
use Rattle.si_insert.specs.Accepted.{IsAccepted, IsInput, ShowsRejected, copy_count, Delay, delay_place}
use Rattle.si_insert.specs.Loops.Tests.{InputWaits, WaitsAfter}
use Rattle.si_insert.proofs.AcceptedByTests.{accepted_if, first_delay, first_loss}
use Rattle.si_insert.proofs.AcceptedLosses.{no_delay, proper_if_none}
use Rattle.si_candidates.proofs.BlockDecisions.{either, input_or_not}

module _ (g : StateGraph) (classes : List Class) where
  abbrev late : ℕ → ℕ → Bool → Bool
  late s t b = waits (class_of classes s) (class_of classes t) b

  -- ---- inputs
  abbrev delay_of : Edge → Delay
  delay_of a = record { s = a.from; e = a.event }

  abbrev IsLate : Edge → Type 0
  IsLate a = IsInput g.signals a.event.sig × ((late a.from a.to false ≡ true) ⊎ (late a.from a.to true ≡ true))

  late_or_not : (a : Edge) → Decided (IsLate a)
  late_or_not a =
      both (input_or_not g.signals a.event.sig)
      (either (same_value (late a.from a.to false) true) (same_value (late a.from a.to true) true))

  late_from : (a : Edge) → Contains g.edges a → IsLate a → InputWaits g classes (delay_of a)
  late_from a there (input, inl is) = record { input = input; to = a.to; step = there; value = false; late = is }
  late_from a there (input, inr is) = record { input = input; to = a.to; step = there; value = true; late = is }

  at_some : (s t : ℕ) (b : Bool) → late s t b ≡ true → (late s t false ≡ true) ⊎ (late s t true ≡ true)
  at_some s t false is = inl is
  at_some s t true is = inr is

  late_found : (d : Delay) → InputWaits g classes d
      → (a : Edge) × Contains g.edges a × IsLate a × (delay_of a ≡ d)
  late_found d w = (arc d.s d.e w.to, w.step, (w.input, at_some d.s w.to w.value w.late), refl)

  first_wait : (found : Option Delay) × IsFirstOrNone delay_place (InputWaits g classes) found
  first_wait =
      first_candidate delay_place (InputWaits g classes) delay_of IsLate late_or_not g.edges late_from late_found

  -- ---- losses: an arc, another from its state, and one that goes on from there by the event of the first
  abbrev Three : Type 0
  Three = Edge × (Edge × Edge)

  abbrev loss_of : Three → Loss
  loss_of p = record { s = p.0.from; lost = p.0.event; by = p.1.0.event }

  abbrev Meet : Three → Type 0
  Meet p = IsNonInput g.signals p.0.event.sig × ((p.0.event ≢ p.1.0.event)
      × ((p.1.0.from ≡ p.0.from) × ((p.1.1.from ≡ p.1.0.to) × (p.1.1.event ≡ p.0.event))))

  abbrev Break : Three → Bool → Type 0
  Break p b = (has_copy (class_of classes p.0.from) b ≡ true) × ((late p.0.from p.0.to b ≡ false)
      × ((late p.0.from p.1.0.to b ≡ false) × (late p.1.0.to p.1.1.to b ≡ true)))

  abbrev AreLoss : Three → Type 0
  AreLoss p = Meet p × (Break p false ⊎ Break p true)

  break_or_not : (p : Three) (b : Bool) → Decided (Break p b)
  break_or_not p b =
      both (same_value (has_copy (class_of classes p.0.from) b) true)
      (both (same_value (late p.0.from p.0.to b) false)
      (both (same_value (late p.0.from p.1.0.to b) false) (same_value (late p.1.0.to p.1.1.to b) true)))

  meet_or_not : (p : Three) → Decided (Meet p)
  meet_or_not p =
      both (driven g.signals p.0.event.sig)
      (both (decide.not (equal_events p.0.event p.1.0.event))
      (both (cases_eq p.1.0.from p.0.from)
      (both (cases_eq p.1.1.from p.1.0.to) (equal_events p.1.1.event p.0.event))))

  loss_or_not : (p : Three) → Decided (AreLoss p)
  loss_or_not p = both (meet_or_not p) (either (break_or_not p false) (break_or_not p true))

  abbrev threes : List Three
  threes = pairs g.edges (pairs g.edges g.edges)

  waits_by : (p : Three) (b : Bool) → Contains threes p → Meet p → Break p b → WaitsAfter g classes (loss_of p)
  waits_by p b there (non_input, (apart, (from, (on, same)))) (has, (first_goes, (other_goes, is))) =
      let outer = of_pairs g.edges (pairs g.edges g.edges) p there in
      let inner = of_pairs g.edges g.edges p.1 outer.1 in
      let A : ℕ → Type 0 = λ s. Step g s p.1.0.event p.1.0.to in
      let B : ℕ → Type 0 = λ s. Step g s p.1.1.event p.1.1.to in
      let E : Event → Type 0 = λ e. Step g p.1.0.to e p.1.1.to in
      record {
        non_input = non_input;
        apart = apart;
        value = b;
        has = has;
        t = p.0.to;
        first = outer.0;
        first_goes = first_goes;
        u = p.1.0.to;
        other = subst A from inner.0;
        other_goes = other_goes;
        w = p.1.1.to;
        next = subst E same (subst B on inner.1);
        late = is;
      }

  loss_from : (p : Three) → Contains threes p → AreLoss p → WaitsAfter g classes (loss_of p)
  loss_from p there (meet, inl is) = waits_by p false there meet is
  loss_from p there (meet, inr is) = waits_by p true there meet is

  break_at : (p : Three) (b : Bool) → Break p b → Break p false ⊎ Break p true
  break_at p false is = inl is
  break_at p true is = inr is

  loss_found : (b : Loss) → WaitsAfter g classes b → (p : Three) × Contains threes p × AreLoss p × (loss_of p ≡ b)
  loss_found b w =
      let x = arc b.s b.lost w.t in
      let y = arc b.s b.by w.u in
      let z = arc w.u b.lost w.w in
      let p : Three = (x, (y, z)) in (
        p,
        in_pairs g.edges (pairs g.edges g.edges) x (y, z) w.first (in_pairs g.edges g.edges y z w.other w.next),
        (
          (w.non_input, (w.apart, (refl, (refl, refl)))),
          break_at p w.value (w.has, (w.first_goes, (w.other_goes, w.late))),
        ),
        refl,
      )

  first_late : (found : Option Loss) × IsFirstOrNone loss_place (WaitsAfter g classes) found
  first_late =
      first_candidate loss_place (WaitsAfter g classes) loss_of AreLoss loss_or_not threes loss_from loss_found

-- ---- the first reason
module _ (c : CodedGraph) (classes : List Class) (is : IsCoded c) (proper : IsProper c.graph)
    (lawful : IsLawful c.graph classes) where
  abbrev Answer : Type 0
  Answer = IsAccepted c.graph classes ⊎ ((why : Rejected) × ShowsRejected c.graph classes why)

  with_loss : ((d : Delay) → InputWaits c.graph classes d → ⊥) → (found : Option Loss)
      → IsFirstOrNone loss_place (WaitsAfter c.graph classes) found → Answer
  with_loss no_wait (Some b) first =
      inr (
        BreaksPersistency b.s b.lost b.by,
        (no_delay c.graph classes is.graph_is lawful no_wait, first_loss c classes b is proper lawful first),
      )
  with_loss no_wait None no_loss =
      let delays = no_delay c.graph classes is.graph_is lawful no_wait in
      let stays = proper_if_none c classes is proper lawful no_loss in
      elim (cases_lt max_states (copy_count classes)) [
        | inl more ↦ inr (TooLarge (copy_count classes), (delays, stays, refl, more))
        | inr few ↦ elim (cases_lt (length c.graph.signals) max_signals) [
          | inl small ↦ inl (accepted_if c classes is proper lawful no_wait no_loss few small)
          | inr full ↦ inr (NoCodeBit, (delays, stays, few, full))
        ]
      ]

  with_wait : (found : Option Delay) → IsFirstOrNone delay_place (InputWaits c.graph classes) found → Answer
  with_wait (Some d) first =
      inr (DelaysInput d.s d.e, first_delay c.graph classes d is.graph_is is.deterministic lawful first)
  with_wait None no_wait =
      let loss = first_late c.graph classes in with_loss no_wait loss.0 loss.1

  pub accepted_or_reason : Answer
  accepted_or_reason = let wait = first_wait c.graph classes in with_wait wait.0 wait.1
