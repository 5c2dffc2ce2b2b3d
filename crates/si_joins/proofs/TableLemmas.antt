-- A table of words, one word after another.
use Rattle.std.proofs.Common.{◌≡◌, ℕ, ◌+◌, ◌<◌, ◌↔◌, ◌⊎◌, List, [], ◌∷◌, ◌++◌, take, get_or, length}
use Rattle.std.proofs.Common.{Contains, slice_get, Some, sym, ap, subst, ◌∙◌, inl, inr}
use Rattle.std.proofs.lemmas.List.Elements.{Contains-append_left, Contains-push, Contains-push_cases}
use Rattle.std.proofs.lemmas.Option.{get_or_from_slice_get}
use Rattle.si_composing.proofs.ListSteps.{there_or_not}
use Rattle.si_works.proofs.EachLemmas.{next, taken_all, taken_more}

module _ (known new words : List (List ℕ)) (k : ℕ) (w : List ℕ) (below : k < length words)
    (at : slice_get words k ≡ Some w) (same : (v : List ℕ) → Contains known v ↔ Contains (take k words) v)
    (present : Contains known w → new ≡ known) (fresh : (Contains known w → ⊥) → new ≡ known ++ w ∷ []) where
  more : take (k + 1) words ≡ take k words ++ w ∷ []
  more =
      let there : w ≡ get_or words k w = sym (get_or_from_slice_get words k w w at) in
      ap (λ (n : ℕ). take n words) (next k) ∙ taken_more words k w below there

  known_stays : (v : List ℕ) → Contains known v → Contains new v
  known_stays v in_known = elim (there_or_not known w) [
    | inl there ↦ subst (λ (ws : List (List ℕ)). Contains ws v) (sym (present there)) in_known
    | inr absent ↦ subst (λ (ws : List (List ℕ)). Contains ws v) (sym (fresh absent))
        (Contains-append_left known (w ∷ []) v in_known)
  ]

  word_known : Contains new w
  word_known = elim (there_or_not known w) [
    | inl there ↦ subst (λ (ws : List (List ℕ)). Contains ws w) (sym (present there)) there
    | inr absent ↦ subst (λ (ws : List (List ℕ)). Contains ws w) (sym (fresh absent)) (Contains-push known w)
  ]

  old_or_word : (v : List ℕ) → Contains new v → Contains known v ⊎ (w ≡ v)
  old_or_word v in_new = elim (there_or_not known w) [
    | inl there ↦ inl (subst (λ (ws : List (List ℕ)). Contains ws v) (present there) in_new)
    | inr absent ↦ Contains-push_cases known w v
        (subst (λ (ws : List (List ℕ)). Contains ws v) (fresh absent) in_new)
  ]

  in_words : (v : List ℕ) → Contains known v ⊎ (w ≡ v) → Contains (take k words ++ w ∷ []) v
  in_words v (inl old) = Contains-append_left (take k words) (w ∷ []) v ((same v).0 old)
  in_words v (inr is) = subst (Contains (take k words ++ w ∷ [])) is (Contains-push (take k words) w)

  from_words : (v : List ℕ) → Contains (take k words) v ⊎ (w ≡ v) → Contains new v
  from_words v (inl old) = known_stays v ((same v).1 old)
  from_words v (inr is) = subst (Contains new) is word_known

  pub table_more : (v : List ℕ) → Contains new v ↔ Contains (take (k + 1) words) v
  table_more v = (
    λ there. subst (λ (ws : List (List ℕ)). Contains ws v) (sym more) (in_words v (old_or_word v there)),
    λ there. from_words v (Contains-push_cases (take k words) w v
        (subst (λ (ws : List (List ℕ)). Contains ws v) more there)),
  )

pub table_all : (known words : List (List ℕ)) (k : ℕ) → k ≡ length words
    → ((v : List ℕ) → Contains known v ↔ Contains (take k words) v) → (v : List ℕ) → Contains known v ↔ Contains words v
table_all known words k all same v =
    subst (λ (ws : List (List ℕ)). Contains known v ↔ Contains ws v) (taken_all words k all) (same v)
