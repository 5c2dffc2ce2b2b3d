-- The place of a name among distinct names.
use Rattle.std.proofs.Common.{◌≡◌, ◌≢◌, ℕ, ◌<◌, true, false, List, [], length, get_or, refl, sym, ◌∙◌, arith, position}
use Rattle.std.proofs.Common.{slice_get, bytes_eq, Option, Some, None, is_some, Contains, AllPairs, IfSome, IsNone, ◌↔◌}
use Rattle.std.proofs.Common.{inl, inr}
use Rattle.std.specs.List.{position_or_len}
use Rattle.std.proofs.lemmas.Bool.{cases_lt, false_from_ne_true, true≢false}
use Rattle.std.proofs.lemmas.List.Sums.{position_or_len_is, passes_at_first}
use Rattle.std.proofs.lemmas.List.Folds.{list_any_at}
use Rattle.std.proofs.lemmas.Map.Views.{Contains-from_any}
use Rattle.std.proofs.lemmas.Option.{slice_get_within, get_or_from_slice_get}
use Rattle.std.proofs.lemmas.Slice.Eq.{bytes_eq-Decides}
use Rattle.si_words.specs.Names.{stands_in}

module _ (names : List (List ℕ)) (name : List ℕ) where
  other : (a : List ℕ) → (name ≡ a → ⊥) → bytes_eq name a ≡ false
  other a h = false_from_ne_true _ (λ e. h ((bytes_eq-Decides name a).0 e))

  pub found : AllPairs (λ x y. x ≢ y) names → (k : ℕ) → slice_get names k ≡ Some name
      → Some k ≡ position (λ n. bytes_eq name n) names
  found distinct k at =
      let within : k < length names = slice_get_within names k name at in
      let here : get_or names k [] ≡ name = get_or_from_slice_get names k name [] at in
      let is : position_or_len (λ n. bytes_eq name n) names ≡ k =
      position_or_len_is (λ n. bytes_eq name n) names k [] (omega arith)
      (λ j before. other _ (λ e. distinct j k [] before within (sym e ∙ sym here)))
      (λ _. (bytes_eq-Decides name _).1 (sym here)) in
      rw is (grind arith)

  pub absent : ¬ Contains names name → None ≡ position (λ n. bytes_eq name n) names
  absent none = elim (cases_lt (position_or_len (λ n. bytes_eq name n) names) (length names)) [
    | inl within ↦ absurd
        (none (
          position_or_len (λ n. bytes_eq name n) names,
          within,
          sym ((bytes_eq-Decides name _).0 (passes_at_first (λ n. bytes_eq name n) names name within)),
        ))
    | inr past ↦ grind arith
  ]

  pub there : (k : ℕ) → slice_get names k ≡ Some name → stands_in names name ≡ true
  there k at = list_any_at (λ n. bytes_eq name n) names k [] (slice_get_within names k name at)
      ((bytes_eq-Decides name _).1 (sym (get_or_from_slice_get names k name [] at)))

  pub not_there : ¬ Contains names name → stands_in names name ≡ false
  not_there none = false_from_ne_true _
      (λ yes. none (Contains-from_any {eq = bytes_eq} (λ x y. (bytes_eq-Decides x y).0) name names yes))

  pub new_name : stands_in names name ≡ false → ¬ Contains names name
  new_name none (k, within, at) =
      true≢false (sym (list_any_at (λ n. bytes_eq name n) names k name within ((bytes_eq-Decides name _).1 (sym at)))
      ∙ none)

  pub place_is : AllPairs (λ x y. x ≢ y) names → (r : Option ℕ) → IfSome r (λ k. slice_get names k ≡ Some name)
      → (IsNone r ↔ ¬ Contains names name) → r ≡ position (λ n. bytes_eq name n) names
  place_is distinct (Some k) at none = found distinct k at
  place_is distinct None at none = absent (none.0 refl)

  pub has_is : (r : Option ℕ) → IfSome r (λ k. slice_get names k ≡ Some name) → (IsNone r ↔ ¬ Contains names name)
      → is_some r ≡ stands_in names name
  has_is (Some k) at none = sym (there k at)
  has_is None at none = sym (not_there (none.0 refl))
