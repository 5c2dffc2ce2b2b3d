-- Words that are cut at a mark.
use Rattle.std.proofs.Common.{suc, ◌≡◌, ℕ, ◌+◌, ◌<◌, true, false, not, List, [], ◌∷◌, ◌++◌, length, take, drop, get_or}
use Rattle.std.proofs.Common.{refl, sym, ap, ap₂, subst, ◌∙◌, inl, inr, arith, bytes_eq, nat_lt, Bool, Option, Some}
use Rattle.std.proofs.lemmas.Bool.{cases_Bool, not-false, ltb-true, lt-ltb}
use Rattle.std.proofs.lemmas.List.{drop_more, take-append-drop, length-append, take_at}
use Rattle.std.proofs.lemmas.List.Sums.{prefix_len_stops}
use Rattle.std.proofs.lemmas.Option.{some_pair_parts, none-some}
use Rattle.std.proofs.lemmas.Slice.Eq.{bytes_eq-Decides}
use Rattle.std.specs.List.{AllByRecursion, list_all, prefix_len}
use Rattle.si_words.proofs.SumWordLemmas.{behind}
use Rattle.si_words.specs.Sums.{len_before, cut_at}

next : (n : ℕ) → 1 + n ≡ suc n
next n = omega arith

front_passes : (p : List ℕ → Bool) (xs : List (List ℕ)) → list_all p (take (prefix_len p xs) xs) ≡ true
front_passes p [] = refl
front_passes p (x ∷ xs) = elim (cases_Bool (p x)) [
  | inl yes_it ↦ rw (yes_it, next (prefix_len p xs), yes_it) (front_passes p xs)
  | inr no_it ↦ rw no_it refl
]

cut_whole : (mark : List ℕ) (words : List (List ℕ)) → nat_lt (len_before mark words) (length words) ≡ true
    → words ≡ take (len_before mark words) words ++ mark ∷ drop (len_before mark words + 1) words
cut_whole mark words within =
    let inside : len_before mark words < length words = ltb-true _ _ within in
    let stops = prefix_len_stops (λ w. not (bytes_eq mark w)) words [] inside in
    let here : mark ≡ get_or words (len_before mark words) [] = (bytes_eq-Decides _ _).0 (not-false _ stops) in
    let rest : drop (len_before mark words) words ≡ mark ∷ drop (len_before mark words + 1) words =
    drop_more words (len_before mark words) [] inside
    ∙ ap (λ (w : List ℕ). w ∷ drop (len_before mark words + 1) words) (sym here) in
    sym (take-append-drop (len_before mark words) words)
    ∙ ap (λ (ws : List (List ℕ)). take (len_before mark words) words ++ ws) rest

-- what is cut at a mark is what stands before it, the mark, and what stands behind it; it doesn't stand before
pub cut_facts : (mark : List ℕ) (words a b : List (List ℕ)) → cut_at mark words ≡ Some (a, b)
    → (words ≡ a ++ mark ∷ b) × (list_all (λ w. not (bytes_eq mark w)) a ≡ true)
cut_facts mark words a b is = elim (cases_Bool (nat_lt (len_before mark words) (length words))) [
  | inl within ↦ (
      let parts = some_pair_parts _ _ _ _ (rw within at is) in (
        cut_whole mark words within ∙ ap₂ (λ (x y : List (List ℕ)). x ++ mark ∷ y) parts.0 parts.1,
        subst (λ (x : List (List ℕ)). list_all (λ w. not (bytes_eq mark w)) x ≡ true) parts.0
            (front_passes (λ w. not (bytes_eq mark w)) words),
      ))
  | inr beyond ↦ absurd (none-some _ (rw beyond at is))
]

-- words that are not the mark
abbrev pub Unlike : List ℕ → List (List ℕ) → Type 0
Unlike mark words = AllByRecursion (λ w. bytes_eq mark w ≡ false) words

len_at : (mark : List ℕ) (xs ys : List (List ℕ)) → Unlike mark xs → len_before mark (xs ++ mark ∷ ys) ≡ length xs
len_at mark [] ys unlike = rw ((bytes_eq-Decides mark mark).1 refl) refl
len_at mark (x ∷ xs) ys unlike = rw (unlike.0, len_at mark xs ys unlike.1) (next (length xs))

pub cut_made : (mark : List ℕ) (xs ys : List (List ℕ)) → Unlike mark xs → cut_at mark (xs ++ mark ∷ ys) ≡ Some (xs, ys)
cut_made mark xs ys unlike =
    let pair : List (List ℕ) → List (List ℕ) → Option (List (List ℕ) × List (List ℕ)) = λ a b. Some (a, b) in
    let within : nat_lt (length xs) (length (xs ++ mark ∷ ys)) ≡ true =
    lt-ltb _ _ (omega (arith, length-append xs (mark ∷ ys))) in
    rw (len_at mark xs ys unlike, within) (ap₂ pair (take_at xs (mark ∷ ys) (length xs) refl) (behind xs ys mark))
