-- The keys of the states of an inserted graph, told by the graph alone.
use Rattle.std.proofs.Common.{◌≡◌, ◌≢◌, ℕ, ◌↔◌, ◌⊎◌, Bool, true, false, not, List, length, map, slice_get, Some, refl}
use Rattle.std.proofs.Common.{sym, ap, subst, ◌∙◌, arith, inl, inr}
use Rattle.std.proofs.lemmas.Bool.{cases_eq, cases_Bool, true≢false}
use Rattle.std.proofs.lemmas.List.{length-map}
use Rattle.std.proofs.lemmas.Option.{get_or_from_slice_get, slice_get-map}
use Rattle.std.specs.Option.{option_map}
use Rattle.si_base.specs.declared.ids.Event.{Event}
use Rattle.si_base.specs.declared.graph.Signal.{Signal}
use Rattle.si_base.specs.Bits.{bit, flip}
use Rattle.si_base.specs.Graph.{StateGraph, Step, IsNonInput, enables}
use Rattle.si_base.specs.Codes.{CodedGraph, IsCoded}
use Rattle.si_base.proofs.BitFacts.{flip-same, flip-other}
use Rattle.si_base.proofs.StepCodes.{step_within}
use Rattle.si_base.proofs.GraphSteps.{enables-step, step_from_enables}
use Rattle.si_base.proofs.Booleans.{twice_not}
use Rattle.si_insert.specs.declared.partition.Class.{Class}
use Rattle.si_insert.specs.declared.partition.Class.TheVariants.{Low, Rising, High, Falling}
use Rattle.si_insert.specs.Partition.{class_of, IsLawful}
use Rattle.si_insert.specs.Insertion.{Copy, IsCopy, Moves, has_copy, waits, switching, IsInsertedGraph, copy_code}
use Rattle.si_insert.specs.Insertion.{coded}
use Rattle.si_insert.proofs.PartitionClasses.{stays_within, same_goes}
use Rattle.si_insert.proofs.InsertionCopies.{copy, copy_at}
use Rattle.si_insert.proofs.InsertionCodes.{values}
use Rattle.si_insert.proofs.AcceptedLosses.{driven_before, driven_after}
use Rattle.si_insert.proofs.InsertionProper.{leads, goes_on, code_at}
use Rattle.si_conflicts.specs.declared.keys.Key.{Key}
use Rattle.si_conflicts.specs.declared.tally.Role.{Role}
use Rattle.si_conflicts.specs.declared.tally.Role.TheVariants.{Absent, Plain, Switching}
use Rattle.si_conflicts.specs.Loops.Keys.{IsExcitedNonInput, AreExcited, IsKey, AreKeys, no_key}
use Rattle.si_conflicts.specs.Loops.Apart.{Stays, AreStaying, role_at}
use Rattle.si_conflicts.proofs.KeyLemmas.{HaveValues}
use Rattle.si_conflicts.proofs.KeyNumbers.{driven_within}

-- the excited signals of a copy: those of its state, or those that don't wait and the new one
abbrev pub excited_there : Role → ℕ → ℕ → ℕ → ℕ
excited_there Absent own staying new = 0
excited_there Plain own staying new = own
excited_there Switching own staying new = flip staying new

abbrev pub copy_key : CodedGraph → List Class → (ℕ → Key) → (ℕ → ℕ) → Copy → Key
copy_key c classes own staying x = record {
  code = copy_code c x;
  excited = excited_there (role_at x.value (class_of classes x.state)) (own x.state).excited (staying x.state)
      (length c.graph.signals);
}

-- ---- roles of copies
pub there_or_absent : (b : Bool) (c : Class) → has_copy c b ≡ true → role_at b c ≢ Absent
there_or_absent false Low there = λ (e : Plain ≡ Absent). cc
there_or_absent false Rising there = λ (e : Switching ≡ Absent). cc
there_or_absent false High there = absurd (true≢false (sym there))
there_or_absent false Falling there = λ (e : Plain ≡ Absent). cc
there_or_absent true Low there = absurd (true≢false (sym there))
there_or_absent true Rising there = λ (e : Plain ≡ Absent). cc
there_or_absent true High there = λ (e : Plain ≡ Absent). cc
there_or_absent true Falling there = λ (e : Switching ≡ Absent). cc

-- the two roles of a copy
pub role_cases : (b : Bool) (c : Class) → has_copy c b ≡ true
    → ((role_at b c ≡ Plain) × ((d : Class) → waits c d b ≡ false) × (c ≢ switching (not b)))
    ⊎ ((role_at b c ≡ Switching) × (c ≡ switching (not b)))
role_cases false Low there = inl (refl, (λ d. refl), λ (e : Low ≡ Rising). cc)
role_cases false Rising there = inr (refl, refl)
role_cases false High there = absurd (true≢false (sym there))
role_cases false Falling there = inl (refl, falling_goes, λ (e : Falling ≡ Rising). cc)
  where
    falling_goes : (d : Class) → waits Falling d false ≡ false
    falling_goes Low = refl
    falling_goes Rising = refl
    falling_goes High = refl
    falling_goes Falling = refl
role_cases true Low there = absurd (true≢false (sym there))
role_cases true Rising there = inl (refl, rising_goes, λ (e : Rising ≡ Falling). cc)
  where
    rising_goes : (d : Class) → waits Rising d true ≡ false
    rising_goes Low = refl
    rising_goes Rising = refl
    rising_goes High = refl
    rising_goes Falling = refl
role_cases true High there = inl (refl, (λ d. refl), λ (e : High ≡ Falling). cc)
role_cases true Falling there = inr (refl, refl)

other_way : (a b : Bool) → a ≡ not b → b ≡ not a
other_way a true same = sym (ap not same)
other_way a false same = sym (ap not same)

module _ (c : CodedGraph) (is : IsCoded c) (classes : List Class) (lawful : IsLawful c.graph classes)
    (own : ℕ → Key) (own_is : (s : ℕ) → IsKey c s (own s))
    (staying : ℕ → ℕ) (stay : (s : ℕ) → AreStaying c.graph classes s (staying s))
    (new : Signal) (copies : List Copy) (h : StateGraph) (inserted : IsInsertedGraph c.graph classes new copies h) where
  abbrev last : ℕ
  last = length c.graph.signals

  abbrev event : ℕ → Bool → Event
  event z up = record { sig = z; up = up }

  no_last : (s : ℕ) → bit (staying s) last ≡ false
  no_last s = elim (cases_Bool (bit (staying s) last)) [
    | inl on ↦ absurd (let below = driven_within c.graph last ((stay s last).0 on).non_input in omega arith)
    | inr off ↦ off
  ]

  module _ (k : ℕ) (x : Copy) (at : slice_get copies k ≡ Some x) (x_is : IsCopy c.graph classes x) where
    abbrev class : Class
    class = class_of classes x.state

    -- a move from the copy is an enabled event there, and back
    enabled : (e : Event) (y : Copy) → Moves c.graph classes x e y → enables h k e ≡ true
    enabled e y moves =
        let m = goes_on c.graph classes new copies h k e x y is.graph_is lawful inserted at moves in
        enables-step h k e m.0 m.2

    moves : (e : Event) → enables h k e ≡ true → (y : Copy) × Moves c.graph classes x e y
    moves e on =
        let step = step_from_enables h k e on in
        let y = leads c.graph classes new copies h k e step.0 x inserted step.1 at in
        (y.0, y.2)

    given : (z : ℕ) → IsNonInput c.graph.signals z → IsNonInput h.signals z
    given z non_input = subst (λ signals. IsNonInput signals z) (sym inserted.signals)
        (driven_after c.graph new z inserted.kind (inl non_input))

    new_driven : IsNonInput h.signals last
    new_driven = subst (λ signals. IsNonInput signals last) (sym inserted.signals)
        (driven_after c.graph new last inserted.kind (inr refl))

    -- an arc that goes at the copy
    along : (z : ℕ) (up : Bool) (t : ℕ) → IsNonInput c.graph.signals z → Step c.graph x.state (event z up) t
        → waits class (class_of classes t) x.value ≡ false → IsExcitedNonInput h k z
    along z up t non_input step goes = record {
      non_input = given z non_input;
      up = up;
      enabled = enabled (event z up) (copy t x.value) (inl (record { step = step; keeps = refl; goes = goes }));
    }

    -- what switches at the copy: a given signal by an arc that goes, or the new one
    abbrev Goes : ℕ → Type 0
    Goes z = IsNonInput c.graph.signals z × (up : Bool) × (t : ℕ) × Step c.graph x.state (event z up) t
        × (waits class (class_of classes t) x.value ≡ false)

    switched : (z : ℕ) → IsExcitedNonInput h k z → Goes z ⊎ ((z ≡ last) × (class ≡ switching (not x.value)))
    switched z s =
        let found = moves (event z s.up) s.enabled in
        from found.0 found.1
      where
        from : (y : Copy) → Moves c.graph classes x (event z s.up) y
            → Goes z ⊎ ((z ≡ last) × (class ≡ switching (not x.value)))
        from y (inl copied) = elim (driven_before c.graph new z
            (subst (λ signals. IsNonInput signals z) inserted.signals s.non_input)) [
              | inl non_input ↦ inl (
                non_input,
                s.up,
                y.state,
                copied.step,
                subst (λ b. waits class (class_of classes y.state) b ≡ false) refl copied.goes,
              )
              | inr same ↦ absurd (
                  let below = step_within c.graph x.state (event z s.up) y.state is.graph_is copied.step in
                  let b = below.1 in omega arith)
            ]
        from y (inr switch) = inr (
          switch.new,
          switch.class ∙ ap switching (other_way x.value s.up switch.from),
        )

    -- ---- a copy at which the new signal is stable
    plain : ((d : Class) → waits class d x.value ≡ false) → class ≢ switching (not x.value)
        → AreExcited h k (own x.state).excited
    plain all_go stable z = (
      λ on. (
          let s = ((own_is x.state).excited_are z).0 on in
          let step = step_from_enables c.graph x.state (event z s.up) s.enabled in
          along z s.up step.0 s.non_input step.1 (all_go (class_of classes step.0))),
      λ s. elim (switched z s) [
        | inl (non_input, up, t, step, goes) ↦ ((own_is x.state).excited_are z).1 (record {
          non_input = non_input;
          up = up;
          enabled = enables-step c.graph x.state (event z up) t step;
        })
        | inr is_new ↦ absurd (stable is_new.1)
      ],
    )

    -- ---- one at which it may switch
    module _ (may : class ≡ switching (not x.value)) where
      switches_new : IsExcitedNonInput h k last
      switches_new = record {
        non_input = new_driven;
        up = not x.value;
        enabled = enabled (event last (not x.value)) (copy x.state (not x.value))
            (inr (record { new = refl; stays = refl; from = twice_not x.value; to = refl; class = may }));
      }

      same_class_goes : (t : ℕ) → class_of classes t ≡ class → waits class (class_of classes t) x.value ≡ false
      same_class_goes t same =
          subst (λ d. waits class d x.value ≡ false) (sym same) (same_goes class x.value)

      goes_same_class : (t : ℕ) → waits class (class_of classes t) x.value ≡ false → class_of classes t ≡ class
      goes_same_class t goes = stays_within (not x.value) (class_of classes t) there ∙ sym may
        where
          there : waits (switching (not x.value)) (class_of classes t) (not (not x.value)) ≡ false
          there = subst (λ b. waits (switching (not x.value)) (class_of classes t) b ≡ false) (twice_not x.value)
              (subst (λ d. waits d (class_of classes t) x.value ≡ false) may goes)

      is_staying : (z : ℕ) → Goes z → Stays c.graph classes x.state z
      is_staying z (non_input, up, t, step, goes) = record {
        non_input = non_input;
        up = up;
        to = t;
        step = step;
        class = goes_same_class t goes;
      }

      at_switching : AreExcited h k (flip (staying x.state) last)
      at_switching z = elim (cases_eq z last) as
          (λ w. (bit (flip (staying x.state) last) z ≡ true) ↔ IsExcitedNonInput h k z) [
            | inl same ↦ (
              λ on. subst (λ y. IsExcitedNonInput h k y) (sym same) switches_new,
              λ s. ap (λ y. bit (flip (staying x.state) last) y) same ∙ flip-same (staying x.state) last
                  ∙ ap not (no_last x.state),
            )
            | inr other ↦ (
              λ on. (
                  let s = (stay x.state z).0 (sym (flip-other (staying x.state) last z other) ∙ on) in
                  along z s.up s.to s.non_input s.step (same_class_goes s.to s.class)),
              λ s. elim (switched z s) [
                | inl goes ↦ flip-other (staying x.state) last z other ∙ (stay x.state z).1 (is_staying z goes)
                | inr is_new ↦ absurd (other is_new.0)
              ],
            )
          ]

    excited_are : AreExcited h k (excited_there (role_at x.value class) (own x.state).excited (staying x.state) last)
    excited_are = elim (role_cases x.value class x_is.there) [
      | inl is_plain ↦ subst
          (λ r. AreExcited h k (excited_there r (own x.state).excited (staying x.state) last)) (sym is_plain.0)
          (plain is_plain.1 is_plain.2)
      | inr may ↦ subst
          (λ r. AreExcited h k (excited_there r (own x.state).excited (staying x.state) last)) (sym may.0)
          (at_switching may.1)
    ]

    is_key : IsKey (coded c copies h) k (copy_key c classes own staying x)
    is_key = record { code_is = sym (code_at c copies h k x at); excited_are = excited_are }

  pub are_keys : AreKeys (coded c copies h) (map (copy_key c classes own staying) copies)
  are_keys = record {
    count = length-map copies (copy_key c classes own staying) ∙ sym inserted.count;
    each = λ k within. (
        let x = copy_at c.graph classes new copies h k inserted within in
        let f : Copy → Key = copy_key c classes own staying in
        let here = get_or_from_slice_get (map f copies) k (f x.0) no_key
        (slice_get-map f copies k ∙ ap (option_map f) x.1) in
        subst (λ key. IsKey (coded c copies h) k key) (sym here) (is_key k x.0 x.1 x.2));
  }

  pub have_values : HaveValues (coded c copies h)
  have_values a below = values c classes new copies h a is lawful inserted below
