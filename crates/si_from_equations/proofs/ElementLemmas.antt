-- Elements of lists: where they stand, and what holds of each two.
use Rattle.std.proofs.Common.{◌≡◌, ◌≢◌, ℕ, zero, suc, ◌<◌, ◌⊎◌, Bool, true, false, List, [], ◌∷◌, ◌++◌, length}
use Rattle.std.proofs.Common.{filter, slice_get, Some, None, AllPairs, bytes_eq, position, refl, sym, ◌∙◌, arith}
use Rattle.std.proofs.Common.{inl, inr}
use Rattle.std.specs.List.{AllByRecursion, position_or_len}
use Rattle.std.proofs.lemmas.Bool.{cases_Bool, cases_lt, lt-ltb, or_cases, true≢false}
use Rattle.std.proofs.lemmas.List.Elements.{All-from_recursion, recursion_from_All}
use Rattle.std.proofs.lemmas.List.Sums.{fails_before_first}
use Rattle.std.proofs.lemmas.Slice.Eq.{bytes_eq-Decides}
use Rattle.si_base.proofs.OrderAscending.{In}
use Rattle.si_words.specs.Names.{stands_in}

-- ---- where elements stand
module _ {A : Type 0} where
  pub in_left : (x : A) (xs ys : List A) → In x xs → In x (xs ++ ys)
  in_left x [] ys there = absurd there
  in_left x (z ∷ xs) ys (inl same) = inl same
  in_left x (z ∷ xs) ys (inr there) = inr (in_left x xs ys there)

  pub in_right : (x : A) (xs ys : List A) → In x ys → In x (xs ++ ys)
  in_right x [] ys there = there
  in_right x (z ∷ xs) ys there = inr (in_right x xs ys there)

  pub in_either : (x : A) (xs ys : List A) → In x (xs ++ ys) → In x xs ⊎ In x ys
  in_either x [] ys there = inr there
  in_either x (z ∷ xs) ys (inl same) = inl (inl same)
  in_either x (z ∷ xs) ys (inr there) = elim (in_either x xs ys there) [
    | inl first ↦ inl (inr first)
    | inr second ↦ inr second
  ]

  pub in_kept : (p : A → Bool) (x : A) (xs : List A) → In x xs → p x ≡ true → In x (filter p xs)
  in_kept p x [] there passes = absurd there
  in_kept p x (z ∷ xs) (inl same) passes =
      let first : p z ≡ true = rw same at passes in rw first (inl same)
  in_kept p x (z ∷ xs) (inr there) passes = elim (cases_Bool (p z)) [
    | inl keeps ↦ rw keeps (inr (in_kept p x xs there passes))
    | inr fails ↦ rw fails (in_kept p x xs there passes)
  ]

  first_or_later : (x z : A) (xs ys : List A) → In x (z ∷ xs) → (In x xs → In x ys) → In x (z ∷ ys)
  first_or_later x z xs ys (inl same) later = inl same
  first_or_later x z xs ys (inr there) later = inr (later there)

  pub in_whole : (p : A → Bool) (x : A) (xs : List A) → In x (filter p xs) → In x xs
  in_whole p x [] there = absurd there
  in_whole p x (z ∷ xs) there = elim (cases_Bool (p z)) [
    | inl keeps ↦ first_or_later x z (filter p xs) xs (rw keeps at there) (in_whole p x xs)
    | inr fails ↦ inr (in_whole p x xs (rw fails at there))
  ]

  pub in_at : (xs : List A) (k : ℕ) (x : A) → slice_get xs k ≡ Some x → In x xs
  in_at [] k x at = absurd cc
  in_at (z ∷ xs) zero x at = inl cc
  in_at (z ∷ xs) (suc k) x at = inr (in_at xs k x at)

  pub of_each : (P : A → Type 0) (x : A) (xs : List A) → AllByRecursion P xs → In x xs → P x
  of_each P x [] all there = absurd there
  of_each P x (z ∷ xs) all (inl same) = rw same all.0
  of_each P x (z ∷ xs) all (inr there) = of_each P x xs all.1 there

  -- ---- what holds of each
  pub each_of_both : (P : A → Type 0) (xs ys : List A) → AllByRecursion P xs → AllByRecursion P ys
      → AllByRecursion P (xs ++ ys)
  each_of_both P [] ys one other = other
  each_of_both P (x ∷ xs) ys one other = (one.0, each_of_both P xs ys one.1 other)

  pub each_kept : (P : A → Type 0) (p : A → Bool) (xs : List A) → AllByRecursion P xs → AllByRecursion P (filter p xs)
  each_kept P p [] all = tt
  each_kept P p (x ∷ xs) all = elim (cases_Bool (p x)) [
    | inl keeps ↦ rw keeps (all.0, each_kept P p xs all.1)
    | inr fails ↦ rw fails (each_kept P p xs all.1)
  ]

  pub kept_pass : (p : A → Bool) (xs : List A) → AllByRecursion (λ x. p x ≡ true) (filter p xs)
  kept_pass p [] = tt
  kept_pass p (x ∷ xs) = elim (cases_Bool (p x)) [
    | inl keeps ↦ rw keeps (keeps, kept_pass p xs)
    | inr fails ↦ rw fails (kept_pass p xs)
  ]

  -- ---- what holds of each two
  abbrev pub Pairs : (A → A → Type 0) → List A → Type 0
  Pairs R [] = Unit {0}
  Pairs R (x ∷ xs) = AllByRecursion (R x) xs × Pairs R xs

  pub pairs_by_place : (R : A → A → Type 0) (xs : List A) → Pairs R xs → AllPairs R xs
  pairs_by_place R [] pairs i j d before within = absurd (omega (arith, before, within))
  pairs_by_place R (x ∷ xs) pairs zero zero d before within = absurd (omega (arith, before))
  pairs_by_place R (x ∷ xs) pairs zero (suc j) d before within =
      All-from_recursion (R x) xs pairs.0 j d (omega (arith, within))
  pairs_by_place R (x ∷ xs) pairs (suc i) zero d before within = absurd (omega (arith, before))
  pairs_by_place R (x ∷ xs) pairs (suc i) (suc j) d before within =
      pairs_by_place R xs pairs.1 i j d (omega (arith, before)) (omega (arith, within))

  pub pairs_in_order : (R : A → A → Type 0) (xs : List A) → AllPairs R xs → Pairs R xs
  pairs_in_order R [] pairs = tt
  pairs_in_order R (x ∷ xs) pairs = (
    recursion_from_All (R x) xs (λ j d within. pairs zero (suc j) d (omega arith) (omega arith)),
    pairs_in_order R xs (λ i j d before within. pairs (suc i) (suc j) d (omega arith) (omega arith)),
  )

  pub pairs_of_both : (R : A → A → Type 0) (xs ys : List A) → Pairs R xs → Pairs R ys
      → AllByRecursion (λ x. AllByRecursion (R x) ys) xs → Pairs R (xs ++ ys)
  pairs_of_both R [] ys one other across = other
  pairs_of_both R (x ∷ xs) ys one other across = (
    each_of_both (R x) xs ys one.0 across.0,
    pairs_of_both R xs ys one.1 other across.1,
  )

  pub pairs_kept : (R : A → A → Type 0) (p : A → Bool) (xs : List A) → Pairs R xs → Pairs R (filter p xs)
  pairs_kept R p [] pairs = tt
  pairs_kept R p (x ∷ xs) pairs = elim (cases_Bool (p x)) [
    | inl keeps ↦ rw keeps (each_kept (R x) p xs pairs.0, pairs_kept R p xs pairs.1)
    | inr fails ↦ rw fails (pairs_kept R p xs pairs.1)
  ]

  -- ---- first places
  none_found : (p : A → Bool) (xs : List A) → position p xs ≡ None → (position_or_len p xs < length xs → ⊥)
  none_found p xs none within =
      let some : position p xs ≡ Some (position_or_len p xs) =
      rw (lt-ltb (position_or_len p xs) (length xs) within) refl in cc

  pub none_pass : (p : A → Bool) (xs : List A) → position p xs ≡ None → AllByRecursion (λ x. p x ≡ false) xs
  none_pass p xs none = recursion_from_All (λ (x : A). p x ≡ false) xs
      (λ k d within. elim (cases_lt (position_or_len p xs) (length xs)) [
        | inl found ↦ absurd (none_found p xs none found)
        | inr past ↦ fails_before_first p xs k d (omega (arith, within, past))
      ])

-- ---- names
pub in_standing : (names : List (List ℕ)) (name : List ℕ) → stands_in names name ≡ true → In name names
in_standing [] name stands = absurd cc
in_standing (n ∷ names) name stands = elim (or_cases (bytes_eq name n) (stands_in names name) stands) [
  | inl same ↦ inl ((bytes_eq-Decides name n).0 same)
  | inr later ↦ inr (in_standing names name later)
]

pub standing_in : (names : List (List ℕ)) (name : List ℕ) → In name names → stands_in names name ≡ true
standing_in [] name there = absurd there
standing_in (n ∷ names) name (inl same) = rw ((bytes_eq-Decides name n).1 same) refl
standing_in (n ∷ names) name (inr there) = elim (cases_Bool (bytes_eq name n)) [
  | inl same ↦ rw same refl
  | inr other ↦ rw (other, standing_in names name there) refl
]

pub other_name : (name n : List ℕ) → bytes_eq name n ≡ false → n ≢ name
other_name name n other same = true≢false (sym ((bytes_eq-Decides name n).1 (sym same)) ∙ other)
