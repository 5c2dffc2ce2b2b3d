-- Either each signal that the circuit drives fits a cell, or one signal is the first that doesn't.
use Rattle.std.proofs.Common.{◌≡◌, ℕ, zero, suc, ◌+◌, ◌⊎◌, length, true, Option, Some, None, is_some, sym, ap, subst}
use Rattle.std.proofs.Common.{◌∙◌, arith, refl, inl, inr}
use Rattle.std.specs.Option.{IsSome}
use Rattle.std.proofs.lemmas.Bool.{cases_Bool, cases_order, true≢false}
use Rattle.std.proofs.lemmas.Option.{slice_get_cases}
use Rattle.si_base.specs.Codes.{CodedGraph}
use Rattle.si_base.specs.Graph.{IsNonInput, is_driven}
use Rattle.si_base.specs.declared.graph.Signal.{Signal}
use Rattle.si_cell.specs.Library.{Library, Instance}
use Rattle.si_circuit.specs.Cells.{AllFit, IsFirstUnfit}
use Rattle.si_circuit.proofs.CellLemmas.{FitBefore, all_fit, fit_more}
use Rattle.si_match.specs.Fit.{first_fit}

pub not_both : (o : Option Instance) → IsSome o → o ≡ None → ⊥
not_both o some none = true≢false (sym some ∙ ap (λ (x : Option Instance). is_some x) none)

pub all_not_first : (c : CodedGraph) (library : Library) (z : ℕ) → AllFit c library → IsFirstUnfit c library z → ⊥
all_not_first c library z all first = not_both (first_fit c library z) (all z first.driven) first.unfit

pub first_is_one : (c : CodedGraph) (library : Library) (y z : ℕ) → IsFirstUnfit c library y → IsFirstUnfit c library z
    → y ≡ z
first_is_one c library y z one other = elim (cases_order y z) [
  | inl same ↦ same
  | inr (inl less) ↦ absurd (not_both (first_fit c library y) (other.others y less one.driven) one.unfit)
  | inr (inr more) ↦ absurd (not_both (first_fit c library z) (one.others z more other.driven) other.unfit)
]

pub fits_or_not : (o : Option Instance) → IsSome o ⊎ (o ≡ None)
fits_or_not None = inr refl
fits_or_not (Some i) = inl refl

driven_or_not : (c : CodedGraph) (z : ℕ) → IsNonInput c.graph.signals z ⊎ (IsNonInput c.graph.signals z → ⊥)
driven_or_not c z = elim (slice_get_cases c.graph.signals z).1 [
  | inl there ↦ elim (cases_Bool (is_driven there.0.kind)) [
    | inl driven ↦ inl (there.0, there.2, driven)
    | inr input ↦ inr (λ d. (let found = d.1 in let is = there.2 in let same : d.0 ≡ there.0 = cc in
        true≢false (sym (subst (λ (x : Signal). is_driven x.kind ≡ true) same d.2) ∙ input)))
  ]
  | inr past ↦ inr (λ d. (let found = d.1 in let none = past.1 in cc))
]

one_more : (c : CodedGraph) (library : Library) (k : ℕ) → FitBefore c library k
    → (IsNonInput c.graph.signals k → IsSome (first_fit c library k)) → FitBefore c library (suc k)
one_more c library k before here =
    let next : k + 1 ≡ suc k = omega arith in
    subst (FitBefore c library) next (fit_more c library k before here)

fit_below : (c : CodedGraph) (library : Library) (k : ℕ) → FitBefore c library k ⊎ ((z : ℕ) × IsFirstUnfit c library z)
fit_below c library zero = inl (λ y below driven. absurd (omega (arith, below)))
fit_below c library (suc k) = elim (fit_below c library k) [
  | inr first ↦ inr first
  | inl before ↦ elim (driven_or_not c k) [
    | inr input ↦ inl (one_more c library k before (λ driven. absurd (input driven)))
    | inl driven ↦ elim (fits_or_not (first_fit c library k)) [
      | inl fits ↦ inl (one_more c library k before (λ d. fits))
      | inr unfit ↦ inr (k, record { driven = driven; unfit = unfit; others = before })
    ]
  ]
]

pub all_or_first : (c : CodedGraph) (library : Library) → AllFit c library ⊎ ((z : ℕ) × IsFirstUnfit c library z)
all_or_first c library = elim (fit_below c library (length c.graph.signals)) [
  | inl before ↦ inl (all_fit c library (length c.graph.signals) before (omega arith))
  | inr first ↦ inr first
]
