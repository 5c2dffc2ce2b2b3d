-- What a signal that waits for a new one keeps of its triggers, and what it adds to the weight of the inserted graph
-- at least.
use Rattle.std.proofs.Common.{◌≡◌, ℕ, suc, ◌+◌, ◌<◌, ◌≤◌, ◌||◌, ◌&&◌, not, Bool, true, false, List, [], ◌∷◌}
use Rattle.std.proofs.Common.{length, slice_get, Some, refl, sym, ap, subst, ◌∙◌, arith, inl, inr, length-append}
use Rattle.std.proofs.lemmas.Bool.{cases_Bool, true≢false}
use Rattle.std.proofs.lemmas.Bool.Decides.{eqb_tells}
use Rattle.si_base.specs.Bits.{bit, flip}
use Rattle.si_base.specs.Codes.{CodedGraph, IsCoded, code, next_value}
use Rattle.si_base.specs.Graph.{StateGraph, Step, enables, rise, fall}
use Rattle.si_base.specs.declared.ids.Event.{Event}
use Rattle.si_base.specs.declared.graph.Signal.{Signal}
use Rattle.si_base.proofs.GraphSteps.{enables-step, step_from_enables}
use Rattle.si_base.proofs.StepCodes.{old_value, step_within}
use Rattle.si_cell.specs.Library.{Library}
use Rattle.si_insert.specs.declared.partition.Class.{Class}
use Rattle.si_insert.specs.declared.partition.Class.TheVariants.{Low, Rising, High, Falling}
use Rattle.si_insert.specs.Partition.{class_of, IsLawful}
use Rattle.si_insert.specs.Insertion.{Copy, IsCopied, IsInsertedGraph, IsSwitch, coded, has_copy, waits, switching}
use Rattle.si_insert.proofs.InsertionCopies.{copy, given_copied, placed}
use Rattle.si_insert.proofs.InsertionProper.{leads, goes_on}
use Rattle.si_insert.proofs.PartitionClasses.{goes_after, switching_there, waits_switching}
use Rattle.si_match.specs.Triggers.{IsTrigger, AreTriggers}
use Rattle.si_match.specs.Weight.{added_weight, size_from, size_of_support}
use Rattle.si_match.proofs.ChoiceLemmas.{trigger_read}
use Rattle.si_match.proofs.UnfitLemmas.{triggers_le, unfit_adds}
use Rattle.si_bounds.specs.Loops.Kept.{AreAllKept, IsKept, is_stable}
use Rattle.si_bounds.specs.Loops.Least.{HaveFewPins}
use Rattle.si_bounds.specs.Loops.Waiting.{Waits}
use Rattle.si_bounds.proofs.LeastFits.{exit, exit_there}
use Rattle.si_bounds.proofs.ReadLemmas.{one_larger, others_given, stays_unfit}
use Rattle.si_bounds.proofs.WaitingFits.{given_bit, next_there}

not_not : (b : Bool) → b ≡ not (not b)
not_not true = refl
not_not false = refl

not_same : (b : Bool) → not b ≡ b → ⊥
not_same true same = true≢false (sym same)
not_same false same = true≢false same

-- no arc from a stable state waits
stable_goes : (from to : Class) (b : Bool) → is_stable from ≡ true → waits from to b ≡ false
stable_goes Low to b stable = refl
stable_goes High to b stable = refl
stable_goes Rising to b stable = absurd (true≢false (sym stable))
stable_goes Falling to b stable = absurd (true≢false (sym stable))

-- ---- next values by what leads on
module _ (d : CodedGraph) (is : IsCoded d) (z : ℕ) (small : z < length d.graph.signals) (k : ℕ) where
  -- the events of z that lead on switch it from the value that it has
  switches_from : (e : Event) (m : ℕ) → Step d.graph k e m → e.sig ≡ z → bit (code d k) z ≡ not e.up
  switches_from e m step of_z =
      let own : Step d.graph k (record { sig = z; up = e.up }) m =
      subst (λ (y : ℕ). Step d.graph k (record { sig = y; up = e.up }) m) of_z step in
      old_value d.graph z (λ s. bit (code d s) z) k m e.up (is.values z small) own

  -- where none leads on, its next value is its value
  next_resting : ((e : Event) (m : ℕ) → Step d.graph k e m → e.sig ≡ z → ⊥) → next_value d k z ≡ bit (code d k) z
  next_resting none = rw (off (rise z) refl, off (fall z) refl) (kept (bit (code d k) z))
    where
      off : (e : Event) → e.sig ≡ z → enables d.graph k e ≡ false
      off e of_z = elim (cases_Bool (enables d.graph k e)) [
        | inl on ↦ absurd (let (m, step) = step_from_enables d.graph k e on in none e m step of_z)
        | inr absent ↦ absent
      ]

      kept : (b : Bool) → (false || (b && not false)) ≡ b
      kept true = refl
      kept false = refl

  -- where one does, its next value is the other
  next_moving : (e : Event) (m : ℕ) → Step d.graph k e m → e.sig ≡ z → next_value d k z ≡ not (bit (code d k) z)
  next_moving e m step of_z = by_direction e.up refl
    where
      event_is : (up : Bool) → e.up ≡ up → Step d.graph k (record { sig = z; up = up }) m
      event_is up is_up =
          let make : ℕ → Bool → Event = λ y v. record { sig = y; up = v } in
          subst (λ v. Step d.graph k (make z v) m) is_up (subst (λ y. Step d.graph k (make y e.up) m) of_z step)

      by_direction : (up : Bool) → e.up ≡ up → next_value d k z ≡ not (bit (code d k) z)
      by_direction true up =
          let on = enables-step d.graph k (rise z) m (event_is true up) in
          let from : bit (code d k) z ≡ false = switches_from (rise z) m (event_is true up) refl in
          rw (on, from) refl
      by_direction false down =
          let on = enables-step d.graph k (fall z) m (event_is false down) in
          let from : bit (code d k) z ≡ true = switches_from (fall z) m (event_is false down) refl in
          let no_rise : enables d.graph k (rise z) ≡ false = elim (cases_Bool (enables d.graph k (rise z))) [
            | inl rises ↦ (
                let (t, up) = step_from_enables d.graph k (rise z) rises in
                absurd (true≢false (sym from ∙ switches_from (rise z) t up refl)))
            | inr absent ↦ absent
          ] in
          rw (no_rise, on, from) refl

module _ (c : CodedGraph) (classes : List Class) (new : Signal) (copies : List Copy) (h : StateGraph)
    (is : IsCoded c) (lawful : IsLawful c.graph classes) (inserted : IsInsertedGraph c.graph classes new copies h)
    (made : IsCoded (coded c copies h)) (z : ℕ) (old : z < length c.graph.signals) where
  abbrev n : ℕ
  n = length c.graph.signals

  abbrev d : CodedGraph
  d = coded c copies h

  one_signal_more : length h.signals ≡ suc n
  one_signal_more =
      let count = ap (length {A = Signal}) inserted.signals ∙ length-append c.graph.signals (new ∷ []) in
      omega (arith, count)

  -- ---- kept triggers are triggers
  stable_next : (k s : ℕ) (b : Bool) → slice_get copies k ≡ Some (copy s b) → is_stable (class_of classes s) ≡ true
      → next_value d k z ≡ next_value c s z
  stable_next k s b at stable =
      next_there c classes new copies h is lawful inserted k (copy s b) at z old
      (λ e t step of_z. stable_goes (class_of classes s) (class_of classes t) b stable)

  kept_stays : (i : ℕ) → IsKept c classes z i → IsTrigger d z i
  kept_stays i t =
      let within = step_within c.graph t.from t.event t.to is.graph_is t.step in
      let from = class_of classes t.from in
      let x : Copy = copy t.from (exit from) in
      let y : Copy = copy t.to (exit from) in
      let (k, inside, at) = placed c.graph classes new copies h x inserted
      (record { within = within.0; there = exit_there from }) in
      let moved : IsCopied c.graph classes x t.event y =
      record {
        step = t.step;
        keeps = refl;
        goes = stable_goes from (class_of classes t.to) (exit from)
            t.keeps.from_stable;
      } in
      let (m, at_m, step) = goes_on c.graph classes new copies h k t.event x y is.graph_is lawful inserted at
      (inl moved) in
      record {
        from = k;
        event = t.event;
        to = m;
        step = step;
        signal = t.signal;
        other = λ own. t.keeps.other (t.signal ∙ own);
        changes = λ same. t.keeps.changes (sym (stable_next m t.to (exit from) at_m t.keeps.to_stable) ∙ same
            ∙ stable_next k t.from (exit from) at t.keeps.from_stable);
      }

  -- ---- the new signal is a trigger, where an arc of z waits
  module _ (w : Waits c.graph classes z) where
    -- the value at which it waits
    abbrev b : Bool
    b = w.arc_waits.0

    abbrev before : Copy
    before = copy w.from b

    abbrev after : Copy
    after = copy w.from (not b)

    abbrev switch : Event
    switch = record { sig = n; up = not b }

    class_is : class_of classes w.from ≡ switching (not b)
    class_is = waits_switching (class_of classes w.from) (class_of classes w.to) b w.arc_waits.1

    placed_at : (v : Bool) → (k : ℕ) × (k < h.states) × (slice_get copies k ≡ Some (copy w.from v))
    placed_at v = placed c.graph classes new copies h (copy w.from v) inserted (record {
      within = (step_within c.graph w.from w.event w.to is.graph_is w.step).0;
      there = subst (λ (x : Class). has_copy x v ≡ true) (sym class_is) (switching_there (not b) v);
    })

    small : z < length h.signals
    small = omega (arith, old, one_signal_more)

    not_new : z ≡ n → ⊥
    not_new same = omega (arith, old, same)

    own_bit : (k : ℕ) (v : Bool) → slice_get copies k ≡ Some (copy w.from v) → bit (code d k) z ≡ bit (code c w.from) z
    own_bit k v at = given_bit c classes new copies h is lawful inserted k (copy w.from v) at z not_new

    -- before it switches no arc of z leads on
    rests_before : (k : ℕ) → slice_get copies k ≡ Some before → (e : Event) (m : ℕ) → Step h k e m → e.sig ≡ z → ⊥
    rests_before k at e m step of_z =
        let (y, at_y, moves) = leads c.graph classes new copies h k e m before inserted step at in
        let moved = given_copied c.graph classes before e y (λ same. not_new (sym of_z ∙ same)) moves in
        let same_to : y.state ≡ w.to = same_target e y.state moved.step of_z in
        let goes : waits (class_of classes w.from) (class_of classes w.to) b ≡ false =
        subst (λ (t : ℕ). waits (class_of classes w.from) (class_of classes t) b ≡ false) same_to moved.goes in
        true≢false (sym w.arc_waits.1 ∙ goes)
      where
        same_up : (a e : Bool) → not a ≡ not e → a ≡ e
        same_up true true same = refl
        same_up true false same = absurd (true≢false (sym same))
        same_up false true same = absurd (true≢false same)
        same_up false false same = refl

        same_target : (e : Event) (t : ℕ) → Step c.graph w.from e t → e.sig ≡ z → t ≡ w.to
        same_target e t step of_z =
            let make : ℕ → Bool → Event = λ y v. record { sig = y; up = v } in
            let from_e = switches_from c is z old w.from e t step of_z in
            let from_w = switches_from c is z old w.from w.event w.to w.step w.signal in
            let up : e.up ≡ w.event.up = same_up e.up w.event.up (sym from_e ∙ from_w) in
            let sig : e.sig ≡ w.event.sig = of_z ∙ sym w.signal in
            let event : e ≡ w.event = λ i. make (sig i) (up i) in
            is.deterministic w.from w.event t w.to (subst (λ f. Step c.graph w.from f t) event step) w.step

    -- and then it does
    moves_after : (k : ℕ) → slice_get copies k ≡ Some after → next_value d k z ≡ not (bit (code c w.from) z)
    moves_after k at =
        let moved : IsCopied c.graph classes after w.event (copy w.to (not b)) = record {
          step = w.step;
          keeps = refl;
          goes = goes_after (class_of classes w.from) (class_of classes w.to) b w.arc_waits.1;
        } in
        let (m, at_m, step) = goes_on c.graph classes new copies h k w.event after (copy w.to (not b)) is.graph_is
        lawful inserted at (inl moved) in
        next_moving d made z small k w.event m step w.signal ∙ ap not (own_bit k (not b) at)

    new_trigger : IsTrigger d z n
    new_trigger =
        let (k, k_in, at_k) = placed_at b in
        let switches : IsSwitch c.graph classes before switch after =
        record { new = refl; stays = refl; from = not_not b; to = refl; class = class_is } in
        let (m, at_m, step) = goes_on c.graph classes new copies h k switch before after is.graph_is lawful inserted
        at_k (inr switches) in
        let rests : next_value d k z ≡ bit (code c w.from) z =
        next_resting d made z small k (rests_before k at_k) ∙ own_bit k b at_k in
        record {
          from = k;
          event = switch;
          to = m;
          step = step;
          signal = refl;
          other = λ same. not_new (sym same);
          changes = λ same. not_same (bit (code c w.from) z) (sym (moves_after m at_m) ∙ same ∙ rests);
        }

    -- ---- with these no cell fits, and the support has them
    module _ (library : Library) (most set : ℕ) (are : AreAllKept c classes z set) (few : HaveFewPins library most)
        (many : most ≤ size_from n 0 set) where
      absent : bit set n ≡ false
      absent = elim (cases_Bool (bit set n)) [
        | inl there ↦ absurd (
            let t = (are n).0 there in
            let within = step_within c.graph t.from t.event t.to is.graph_is t.step in
            omega (arith, within.1, t.signal))
        | inr clear ↦ clear
      ]

      -- the kept triggers and the new signal
      abbrev read : ℕ
      read = flip set n

      all_triggers : AreTriggers d z read
      all_triggers i there = elim (eqb_tells i n) [
        | inl same ↦ subst (IsTrigger d z) (sym same.1) new_trigger
        | inr other ↦ kept_stays i ((are i).0 (others_given n set absent i other.1 there))
      ]

      own_unread : bit read z ≡ false
      own_unread = elim (cases_Bool (bit read z)) [
        | inl there ↦ absurd (let own = all_triggers z there in own.other refl)
        | inr clear ↦ clear
      ]

      many_read : most < size_from (suc n) 0 read
      many_read = omega (arith, one_larger n set absent, many)

      pub adds_kept : 2 + size_from n 0 set ≤ added_weight d library z
      adds_kept =
          let by_reading = trigger_read d library z made read all_triggers in
          let unfit = stays_unfit d library z most made few (suc n) read by_reading own_unread many_read in
          let added = unfit_adds d library z unfit in
          let all : size_from (suc n) 0 read ≤ size_of_support d z =
          subst (λ (count : ℕ). size_from count 0 read ≤ size_of_support d z) one_signal_more
          (triggers_le d made z read all_triggers) in
          omega (arith, added, all, one_larger n set absent)
