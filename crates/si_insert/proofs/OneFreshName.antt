-- A stem has one fresh name.
use Rattle.std.proofs.Common.{◌≡◌, ℕ, zero, suc, ◌+◌, ◌<◌, ◌≤◌, List, ◌++◌, length, decimal, refl, sym, ap, subst, ◌∙◌}
use Rattle.std.proofs.Common.{arith, inl, inr, bytes_eq}
use Rattle.std.proofs.lemmas.Bool.{cases_Bool, cases_lt, cases_order, true≢false}
use Rattle.std.proofs.lemmas.Slice.Eq.{bytes_eq-Decides}
use Rattle.si_base.specs.declared.graph.Signal.{Signal}
use Rattle.si_base.specs.Limits.{max_signals}
use Rattle.si_checks.proofs.SearchDecisions.{Decided, some_of}
use Rattle.si_insert.specs.Fresh.{IsTaken, IsFresh}
use Rattle.si_insert.proofs.FreshNameExists.{last_fresh}

-- ---- it has no two
not_lower : (signals : List Signal) (stem a b : List ℕ) → (x : IsFresh signals stem a) → (y : IsFresh signals stem b)
    → x.number < y.number → ⊥
not_lower signals stem a b x y less =
    x.free (subst (λ name. IsTaken signals name) (sym x.is) (y.least x.number less))

pub one_name : (signals : List Signal) (stem a b : List ℕ) → IsFresh signals stem a → IsFresh signals stem b → a ≡ b
one_name signals stem a b x y = elim (cases_order x.number y.number) [
  | inl same ↦ x.is ∙ ap (λ n. stem ++ decimal n) same ∙ sym y.is
  | inr (inl less) ↦ absurd (not_lower signals stem a b x y less)
  | inr (inr more) ↦ absurd (not_lower signals stem b a y x more)
]

-- ---- and it has one
same_name : (a b : List ℕ) → Decided (a ≡ b)
same_name a b = elim (cases_Bool (bytes_eq a b)) [
  | inl same ↦ inl ((bytes_eq-Decides a b).0 same)
  | inr other ↦ inr (λ same. true≢false (sym ((bytes_eq-Decides a b).1 same) ∙ other))
]

taken_or_not : (signals : List Signal) (name : List ℕ) → Decided (IsTaken signals name)
taken_or_not signals name =
    elim (some_of (λ (x : Signal). x.name ≡ name) (λ x. same_name x.name name) signals) [
      | inl (x, there, same) ↦ inl (there.0, x, there.1, there.2, same)
      | inr none ↦ inr (λ taken. none (taken.1, (taken.0, taken.2, taken.3), taken.4))
    ]

module _ (signals : List Signal) (stem : List ℕ) (few : length signals ≤ max_signals) where
  -- the stem with each number below k is taken
  abbrev AreTaken : ℕ → Type 0
  AreTaken k = (j : ℕ) → j < k → IsTaken signals (stem ++ decimal j)

  taken_more : (k : ℕ) → AreTaken k → IsTaken signals (stem ++ decimal k) → AreTaken (k + 1)
  taken_more k taken here j below = elim (cases_lt j k) [
    | inl before ↦ taken j before
    | inr above ↦ (
        let same : k ≡ j = omega arith in
        let P : ℕ → Type 0 = λ i. IsTaken signals (stem ++ decimal i) in
        subst P same here)
  ]

  -- the search for it, with so many numbers left
  fresh_from : (left k : ℕ) → k + left ≡ length signals → AreTaken k → (name : List ℕ) × IsFresh signals stem name
  fresh_from zero k size taken =
      let all : k ≡ length signals = omega arith in
      (stem ++ decimal k, last_fresh signals signals stem (stem ++ decimal k) k few refl all taken refl)
  fresh_from (suc left) k size taken = elim (taken_or_not signals (stem ++ decimal k)) [
    | inl here ↦ fresh_from left (k + 1) (omega arith) (taken_more k taken here)
    | inr free ↦ (stem ++ decimal k, record { number = k; is = refl; free = free; least = taken })
  ]

  pub some_fresh : (name : List ℕ) × IsFresh signals stem name
  some_fresh = fresh_from (length signals) 0 (omega arith) (λ j below. absurd (omega arith))
