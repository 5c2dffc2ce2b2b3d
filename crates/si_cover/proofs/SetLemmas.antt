-- Sets of states, as calls lend them.
use Rattle.std.proofs.Common.{◌≡◌, ℕ, ◌⊎◌, ◌<◌, ◌≤◌, ◌↔◌, Bool, true, List, length, get_or, Contains, Result, Ok, Err}
use Rattle.std.proofs.Common.{IsTrue, refl, sym, subst, ◌∙◌, arith, inl, inr, nat_cmp}
use Rattle.std.proofs.lemmas.Bool.{true≢false}
use Rattle.std.proofs.lemmas.List.{get_or_default}
use Rattle.std.proofs.lemmas.List.Sorted.{searched}
use Rattle.std.proofs.lemmas.Map.Keys.{non_decreasing_from_sorted}
use Rattle.std.specs.List.Sorted.{IsBinarySearchResult, IsNonDecreasing, IsStrictlySortedBy}
use Rattle.std.specs.Result.{is_ok}

-- what a search finds is in the list
found_in : (xs : List ℕ) (x : ℕ) (r : Result ℕ ℕ) → IsBinarySearchResult (λ y. nat_cmp y x) xs r
    → IsNonDecreasing xs → is_ok r ≡ true → Contains xs x
found_in xs x (Ok i) answer rising found =
    let at = searched xs x (Ok i) answer (λ a b below within. rising a b 0 below within) in
    (i, at.0, get_or_default xs i x 0 at.0 ∙ at.1)
found_in xs x (Err i) answer rising found = absurd (true≢false (sym found))

-- what is in the list is found
in_found : (xs : List ℕ) (x : ℕ) (r : Result ℕ ℕ) → IsBinarySearchResult (λ y. nat_cmp y x) xs r
    → IsNonDecreasing xs → Contains xs x → is_ok r ≡ true
in_found xs x (Ok i) answer rising there = refl
in_found xs x (Err i) answer rising (k, within, at) =
    let (bound, below, above) = searched xs x (Err i) answer (λ a b low high. rising a b 0 low high) in
    let here : get_or xs k 0 ≡ x = get_or_default xs k 0 x within ∙ at in
    elim (side k i) [
      | inl before ↦ (let less = below k before in absurd (omega (arith, less, here)))
      | inr behind ↦ (let more = above k behind within in absurd (omega (arith, more, here)))
    ]
  where
    side : (k i : ℕ) → (k < i) ⊎ (i ≤ k)
    side k i = grind arith

-- a search in the list that a set lends tells whether the set has the state
pub search_tells : (set xs : List ℕ) (x : ℕ) (r : Result ℕ ℕ) (b : Bool) → xs ≡ set
    → IsStrictlySortedBy nat_cmp set → IsBinarySearchResult (λ y. nat_cmp y x) xs r → b ≡ is_ok r
    → IsTrue b ↔ Contains set x
search_tells set xs x r b same order answer told =
    let rising : IsNonDecreasing xs =
    non_decreasing_from_sorted xs (subst (IsStrictlySortedBy nat_cmp) (sym same) order) in (
      λ h. subst (λ (l : List ℕ). Contains l x) same (found_in xs x r answer rising (sym told ∙ h)),
      λ there. told ∙ in_found xs x r answer rising (subst (λ (l : List ℕ). Contains l x) (sym same) there),
    )

-- ---- the list that a set lends
pub some_lent : (set xs : List ℕ) → xs ≡ set → (s : ℕ) × Contains set s → 0 < length xs
some_lent set xs same (s, there) = subst (λ (l : List ℕ). 0 < length l) (sym same) (omega (arith, there.1))

pub lent_in : (set xs : List ℕ) (i s : ℕ) → xs ≡ set → i < length xs → s ≡ get_or xs i s → Contains set s
lent_in set xs i s same within at = subst (λ (l : List ℕ). Contains l s) same (i, within, sym at)
