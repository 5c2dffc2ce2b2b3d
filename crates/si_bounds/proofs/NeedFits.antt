-- What a signal needs of the classes, so that a cell fits it after the insertion.
use Rattle.std.proofs.Common.{◌≡◌, ℕ, zero, suc, ◌⊎◌, ◌+◌, ◌<◌, not, Bool, true, false}
use Rattle.std.proofs.Common.{List, [], ◌∷◌, length, slice_get, All, Contains}
use Rattle.std.proofs.Common.{Some, is_some, refl, sym, ap, subst, ◌∙◌, arith, inl, inr}
use Rattle.std.proofs.Common.{length-append}
use Rattle.std.proofs.lemmas.Bool.Decides.{eqb_tells}
use Rattle.std.proofs.lemmas.List.Elements.{All-cons, All-nil}
use mathlib.Core.Bool.{beq}
use Rattle.si_base.specs.Bits.{bit}
use Rattle.si_base.specs.Codes.{CodedGraph, IsCoded, code, next_value}
use Rattle.si_base.specs.Graph.{StateGraph}
use Rattle.si_base.specs.declared.graph.Signal.{Signal}
use Rattle.si_base.proofs.Booleans.{same_or_not}
use Rattle.si_base.proofs.GraphSteps.{beq-refl}
use Rattle.si_cell.specs.Library.{Library, Instance, code_of}
use Rattle.si_insert.specs.declared.partition.Class.{Class}
use Rattle.si_insert.specs.Insertion.{Copy, IsInsertedGraph, coded}
use Rattle.si_insert.specs.Partition.{IsLawful, class_of}
use Rattle.si_insert.proofs.InsertionCopies.{copy, copy_at, placed}
use Rattle.si_insert.proofs.InsertionProper.{code_at, new_bit}
use Rattle.si_match.specs.Fit.{first_fit, IsOver, Fits}
use Rattle.si_match.specs.Functions.{AreFunctions}
use Rattle.si_match.specs.Loops.Choices.{AreAmong}
use Rattle.si_match.specs.Loops.Places.{placed_code, Agrees, AgreesAt, Differs}
use Rattle.si_match.proofs.ChoiceLemmas.{fitted_first}
use Rattle.si_match.proofs.PlaceLemmas.{agreeing_fits, differing_unfit}
use Rattle.si_bounds.specs.Loops.Needs.{AsksWithin, IsNeedOfOne, Suits, is_high, is_low}
use Rattle.si_bounds.specs.Loops.Points.{AreSmall, with_last}
use Rattle.si_bounds.specs.Loops.Waiting.{NeverWaits}
use Rattle.si_bounds.specs.declared.needs.Need.{Need}
use Rattle.si_bounds.specs.declared.points.Places.{Places}
use Rattle.si_bounds.proofs.NeedSuits.{met_suits, missed_not}
use Rattle.si_bounds.proofs.WaitingFits.{given_bit, same_next}

hits : (a b : Bool) → a ≡ b → not (beq a b) ≡ false
hits a b same = ap (λ v. not (beq v b)) same ∙ ap not (beq-refl b)

-- ---- some table agrees at all states, or each differs at one
module _ (c : CodedGraph) (z : ℕ) (chosen : List ℕ) where
  agrees_below : (table count : ℕ) → ((s : ℕ) → s < count → AgreesAt c z chosen table s)
      ⊎ ((s : ℕ) × (s < count) × (AgreesAt c z chosen table s → ⊥))
  agrees_below table zero = inl (λ s within. absurd (omega (arith, within)))
  agrees_below table (suc count) = elim (agrees_below table count) [
    | inr (s, within, differs) ↦ inr (s, omega (arith, within), differs)
    | inl before ↦ elim (same_or_not (bit table (placed_code (z ∷ chosen) (code c count))) (next_value c count z)) [
      | inr differs ↦ inr (count, omega arith, differs)
      | inl here ↦ inl (λ s within. elim (eqb_tells s count) [
        | inl same ↦ subst (AgreesAt c z chosen table) (sym same.1) here
        | inr other ↦ (let not_last = other.1 in before s (grind (arith, within, not_last)))
      ])
    ]
  ]

  pub some_agrees : (tables : List ℕ) → ((t : ℕ) × Contains tables t × Agrees c z chosen t)
      ⊎ All (Differs c z chosen) tables
  some_agrees [] = inr (All-nil (Differs c z chosen))
  some_agrees (t ∷ tables) = elim (agrees_below t c.graph.states) [
    | inl agrees ↦ inl (t, (0, omega arith, refl), agrees)
    | inr differs ↦ elim (some_agrees tables) [
      | inl (u, (k, within, at), agrees) ↦ inl (u, (suc k, omega (arith, within), at), agrees)
      | inr all ↦ inr (All-cons (Differs c z chosen) t tables differs all)
    ]
  ]

module _ (c : CodedGraph) (classes : List Class) (new : Signal) (copies : List Copy) (h : StateGraph)
    (is : IsCoded c) (lawful : IsLawful c.graph classes) (inserted : IsInsertedGraph c.graph classes new copies h)
    (z : ℕ) (old : z < length c.graph.signals) (never : NeverWaits c.graph classes z)
    (made : IsCoded (coded c copies h)) where
  abbrev n : ℕ
  n = length c.graph.signals

  abbrev d : CodedGraph
  d = coded c copies h

  count : length h.signals ≡ n + 1
  count = ap (length {A = Signal}) inserted.signals ∙ length-append c.graph.signals (new ∷ [])

  -- ---- signals at the places, the new one at the last
  module _ (places : Places) (small : AreSmall n places) where
    abbrev chosen : List ℕ
    chosen = places.first ∷ places.second ∷ places.third ∷ n ∷ []

    placed_there : (k : ℕ) (x : Copy) → slice_get copies k ≡ Some x → x.state < c.graph.states
        → placed_code (z ∷ chosen) (code d k) ≡ with_last z places (code c x.state) x.value
    placed_there k x at within = λ i. code_of (given z old i ∷ given places.first small.first i
        ∷ given places.second small.second i ∷ given places.third small.third i ∷ last i ∷ [])
      where
        given : (j : ℕ) → j < n → bit (code d k) j ≡ bit (code c x.state) j
        given j low = given_bit c classes new copies h is lawful inserted k x at j (λ same. omega (arith, low, same))

        bit_at_last : ℕ → Bool
        bit_at_last v = bit v n

        last : bit (code d k) n ≡ x.value
        last = ap bit_at_last (code_at c copies h k x at) ∙ new_bit c x is within

    module _ (table : ℕ) where
      -- what the table has at a copy
      value_there : (k : ℕ) (x : Copy) → slice_get copies k ≡ Some x → x.state < c.graph.states
          → bit table (placed_code (z ∷ chosen) (code d k)) ≡ bit table (with_last z places (code c x.state) x.value)
      value_there k x at within = ap (bit table) (placed_there k x at within)

      pub agrees_suits : Agrees d z chosen table → Suits c classes z places table
      agrees_suits agrees s value within there =
          let x = copy s value in
          let (k, inside, at) = placed c.graph classes new copies h x inserted (record { within = within; there = there }) in
          hits (bit table (with_last z places (code c s) value)) (next_value c s z)
          (sym (value_there k x at within) ∙ agrees k inside
          ∙ same_next c classes new copies h is lawful inserted k x at z old never)

      pub suits_agrees : Suits c classes z places table → Agrees d z chosen table
      suits_agrees suits k inside =
          let (x, at, is_copy) = copy_at c.graph classes new copies h k inserted inside in
          let hit = suits x.state x.value is_copy.within is_copy.there in
          value_there k x at is_copy.within
          ∙ missed_not (bit table (with_last z places (code c x.state) x.value)) (next_value c x.state z) hit
          ∙ sym (same_next c classes new copies h is lawful inserted k x at z old never)

    all_small : All (λ y. y < length h.signals) chosen
    all_small =
        let Small : ℕ → Type 0 = λ y. y < length h.signals in
        All-cons Small places.first (places.second ∷ places.third ∷ n ∷ []) (omega (arith, small.first, count))
        (All-cons Small places.second (places.third ∷ n ∷ []) (omega (arith, small.second, count))
        (All-cons Small places.third (n ∷ []) (omega (arith, small.third, count))
        (All-cons Small n [] (omega (arith, count)) (All-nil Small))))

  module _ (library : Library) (tables : List ℕ) (are : AreFunctions library tables) where
    old_there : z < length h.signals
    old_there = omega (arith, old, count)

    -- ---- where classes meet the need of a table, its cell fits
    pub fits_if_met : (need : Need) → IsNeedOfOne c z tables need
        → AsksWithin need (λ s. is_high (class_of classes s)) (λ s. is_low (class_of classes s))
        → is_some (first_fit d library z) ≡ true
    fits_if_met need one met =
        let agrees = suits_agrees one.places one.small one.table
        (met_suits c classes z one.places one.table need one.is met) in
        fitted_first d library z made (agreeing_fits d library z (chosen one.places one.small) tables made old_there
        (all_small one.places one.small) refl are one.table one.there agrees)

    -- ---- where an instance over such signals fits, some table suits the classes
    pub suiting_table : (places : Places) (small : AreSmall n places) (f : Instance) → IsOver d library f
        → Fits d library z f → AreAmong (z ∷ chosen places small) f.literals
        → (t : ℕ) × Contains tables t × Suits c classes z places t
    suiting_table places small f over fit among = elim (some_agrees d z (chosen places small) tables) [
      | inl (t, there, agrees) ↦ (t, there, agrees_suits places small t agrees)
      | inr differ ↦ absurd (differing_unfit d library z (chosen places small) tables made old_there
          (all_small places small) refl are differ f over fit among)
    ]
