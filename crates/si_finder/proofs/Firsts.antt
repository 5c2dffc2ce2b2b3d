-- The first number of which a decided property holds, where it holds below a bound alone.
use Rattle.std.proofs.Common.{ℕ, zero, suc, ◌<◌, ◌⊎◌, subst, arith, inl, inr}
use Rattle.std.proofs.lemmas.Bool.{cases_eq}
use Rattle.si_checks.proofs.SearchDecisions.{Decided}

-- the property holds of k, and of no smaller number
pub record IsFirstNumber (P : ℕ → Type 0) (k : ℕ) : Type 0 where
  pub holds : P k
  pub first : (u : ℕ) → u < k → P u → ⊥

module _ (P : ℕ → Type 0) (decided : (u : ℕ) → Decided (P u)) where
  none_more : (k : ℕ) → ((u : ℕ) → u < k → P u → ⊥) → (P k → ⊥) → (u : ℕ) → u < suc k → P u → ⊥
  none_more k none isnt u less holds = elim (cases_eq u k) [
    | inl same ↦ isnt (subst P same holds)
    | inr apart ↦ none u (omega (arith, less, apart)) holds
  ]

  first_below : (k : ℕ) → ((z : ℕ) × IsFirstNumber P z) ⊎ ((u : ℕ) → u < k → P u → ⊥)
  first_below zero = inr (λ u less holds. omega (arith, less))
  first_below (suc k) = elim (first_below k) [
    | inl found ↦ inl found
    | inr none ↦ elim (decided k) [
      | inl holds ↦ inl (k, record { holds = holds; first = none })
      | inr isnt ↦ inr (none_more k none isnt)
    ]
  ]

  pub first_number : (bound : ℕ) → ((u : ℕ) → P u → u < bound)
      → ((z : ℕ) × IsFirstNumber P z) ⊎ ((u : ℕ) → P u → ⊥)
  first_number bound below = elim (first_below bound) [
    | inl found ↦ inl found
    | inr none ↦ inr (λ u holds. none u (below u holds) holds)
  ]
