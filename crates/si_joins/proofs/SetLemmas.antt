-- The sets of states that words name, one state after another.
use Rattle.std.proofs.Common.{◌≡◌, ℕ, ◌+◌, ◌<◌, ◌≤◌, ◌↔◌, Bool, true, false, List, get_or}
use Rattle.std.proofs.Common.{length, map, set, Contains, sym, subst, ◌∙◌, arith, inl, inr, bytes_eq}
use Rattle.std.proofs.Common.{IsTrue}
use Rattle.std.specs.List.{list_any, range_with_len}
use Rattle.std.proofs.lemmas.Bool.{cases_eq, true≢false}
use Rattle.std.proofs.lemmas.List.{get_or-set_other, get_or-set_same, length-set}
use Rattle.std.proofs.lemmas.List.FromFn.{fill_by_all}
use Rattle.si_composing.proofs.ListSteps.{any_there, none_there}

module _ (f : ℕ → Bool) (size : ℕ) where
  -- the states below s are looked at
  pub record IsFilledTo (s : ℕ) (found : List Bool) : Type 0 where
    pub size_is : length found ≡ size
    pub done : (t : ℕ) → t < s → get_or found t false ≡ f t
    pub left : (t : ℕ) → s ≤ t → t < size → get_or found t false ≡ false

  pub filled_skip : (s : ℕ) (found : List Bool) → s < size → IsFilledTo s found → f s ≡ false → IsFilledTo (s + 1) found
  filled_skip s found inside so left_out = record {
    size_is = so.size_is;
    done = λ t below. elim (cases_eq t s) [
      | inl same ↦ subst (λ (u : ℕ). get_or found u false ≡ f u) (sym same)
          (so.left s (omega arith) inside ∙ sym left_out)
      | inr other ↦ so.done t (omega (arith, below, other))
    ];
    left = λ t above below. so.left t (omega (arith, above)) below;
  }

  pub filled_add : (s : ℕ) (found : List Bool) → s < size → IsFilledTo s found → f s ≡ true
      → IsFilledTo (s + 1) (set found s true)
  filled_add s found inside so taken =
      let there : s < length found = omega (arith, inside, so.size_is) in
      record {
        size_is = length-set found s true ∙ so.size_is;
        done = λ t below. elim (cases_eq t s) [
          | inl same ↦ subst (λ (u : ℕ). get_or (set found s true) u false ≡ f u) (sym same)
              (get_or-set_same found s true false there ∙ sym taken)
          | inr other ↦ get_or-set_other found s t true false other ∙ so.done t (omega (arith, below, other))
        ];
        left = λ t above below.
            get_or-set_other found s t true false (λ same. omega (arith, same, above))
            ∙ so.left t (omega (arith, above)) below;
      }

  pub filled_all : (s : ℕ) (found : List Bool) → size ≤ s → IsFilledTo s found → found ≡ map f (range_with_len 0 size)
  filled_all s found all so =
      fill_by_all f found size false so.size_is (λ k below. so.done k (omega (arith, below, all)))

-- ---- a word among words, by a table that has the same words
module _ (known words : List (List ℕ)) (same : (w : List ℕ) → Contains known w ↔ Contains words w) (word : List ℕ)
    (b : Bool) (tells : IsTrue b ↔ Contains known word) where
  pub known_is : b ≡ true → list_any (bytes_eq word) words ≡ true
  known_is is = any_there words word ((same word).0 (tells.0 is))

  pub unknown_is : b ≡ false → list_any (bytes_eq word) words ≡ false
  unknown_is is = none_there words word (λ there. true≢false (sym (tells.1 ((same word).1 there)) ∙ is))
