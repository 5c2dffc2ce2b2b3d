-- Signal after signal, those that fit.
use Rattle.std.proofs.Common.{◌≡◌, ◌↔◌, ℕ, ◌+◌, ◌<◌, ◌≤◌, IsTrue, Bool, false, length, is_some, sym, ap}
use Rattle.std.proofs.Common.{subst, ◌∙◌, arith, inl, inr, Option, Some, None, is_none, true, if◌then◌else◌, refl}
use Rattle.std.proofs.lemmas.Bool.{true≢false}
use Rattle.std.proofs.lemmas.Bool.Decides.{eqb_tells}
use Rattle.std.proofs.lemmas.Option.{slice_get_within}
use Rattle.si_base.specs.Bits.{bit, IsSet}
use Rattle.si_base.specs.Codes.{CodedGraph}
use Rattle.si_base.specs.Graph.{StateGraph, IsNonInput}
use Rattle.si_cell.specs.Library.{Library, Instance}
use Rattle.si_match.specs.Fit.{first_fit}
use Rattle.si_match.specs.Weight.{added_weight, size_of_support}
use Rattle.si_bounds.specs.Loops.Fitted.{AreFitted}

module _ (c : CodedGraph) (library : Library) where
  -- the set has those of the first signals, so many, that fit
  abbrev pub AreFittedBefore : ℕ → ℕ → Type 0
  AreFittedBefore count fitted = (z : ℕ) → z < count → IsNonInput c.graph.signals z
      → bit fitted z ≡ is_some (first_fit c library z)

  pub none_before : (fitted : ℕ) → AreFittedBefore 0 fitted
  none_before fitted z below driven = absurd (omega (arith, below))

  pub input_passed : (i fitted : ℕ) (g : StateGraph) (driven : Bool) → g ≡ c.graph
      → (IsTrue driven ↔ IsNonInput g.signals i) → driven ≡ false → AreFittedBefore i fitted
      → AreFittedBefore (i + 1) fitted
  input_passed i fitted g driven same told is before z below non_input = elim (eqb_tells z i) [
    | inl at ↦ (
        let here : IsNonInput g.signals i = subst (λ (h : StateGraph). IsNonInput h.signals i) (sym same)
        (subst (IsNonInput c.graph.signals) at.1 non_input) in
        absurd (true≢false (sym (told.1 here) ∙ is)))
    | inr other ↦ (let not_last = other.1 in before z (grind (arith, below, not_last)) non_input)
  ]

  pub signal_added : (i fitted next : ℕ) (fits : Bool) → IsSet fitted i fits next
      → fits ≡ is_some (first_fit c library i) → AreFittedBefore i fitted → AreFittedBefore (i + 1) next
  signal_added i fitted next fits set is before z below non_input = elim (eqb_tells z i) [
    | inl at ↦ ap (bit next) at.1 ∙ set.there ∙ is ∙ ap (λ y. is_some (first_fit c library y)) (sym at.1)
    | inr other ↦ (
        let not_last = other.1 in
        set.others z not_last ∙ before z (grind (arith, below, not_last)) non_input)
  ]

  pub all_fitted : (i fitted : ℕ) → length c.graph.signals ≤ i → AreFittedBefore i fitted → AreFitted c library fitted
  all_fitted i fitted past before z (x, at, driven) =
      let within = slice_get_within c.graph.signals z x at in
      before z (omega (arith, within, past)) (x, at, driven)

  -- ---- what is known of one signal
  module _ (z : ℕ) (fits : Bool) (are : fits ≡ is_some (first_fit c library z)) where
    pub fitted_adds : fits ≡ true → 0 ≡ added_weight c library z
    fitted_adds there = by_fit (first_fit c library z) (sym are ∙ there)
      where
        by_fit : (o : Option Instance) → is_some o ≡ true
            → 0 ≡ (if is_none o then 1 + size_of_support c z else 0)
        by_fit None is = absurd (true≢false (sym is))
        by_fit (Some i) is = refl

    pub unfit_adds : fits ≡ false → 1 + size_of_support c z ≡ added_weight c library z
    unfit_adds clear = by_fit (first_fit c library z) (sym are ∙ clear)
      where
        by_fit : (o : Option Instance) → is_some o ≡ false
            → 1 + size_of_support c z ≡ (if is_none o then 1 + size_of_support c z else 0)
        by_fit None is = refl
        by_fit (Some i) is = absurd (true≢false is)
