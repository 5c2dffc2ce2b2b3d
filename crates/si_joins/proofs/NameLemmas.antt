-- Names among signals.
use Rattle.std.proofs.Common.{◌≡◌, ℕ, zero, suc, ◌<◌, ◌≤◌, ◌&&◌, true, false, List, [], ◌∷◌, ◌++◌, length}
use Rattle.std.proofs.Common.{get_or, refl, sym, ap, ◌∙◌, arith, inl, inr, bytes_eq, nat_le, leb-true, ne_eqb}
use Rattle.std.specs.List.{list_all}
use Rattle.std.proofs.lemmas.Bool.{and_from, and_parts, cases_Bool, cases_lt, true≢false}
use Rattle.std.proofs.lemmas.List.Folds.{list_all-append}
use Rattle.std.proofs.lemmas.Slice.Eq.{bytes_eq-Decides}
use Rattle.si_base.specs.declared.graph.Signal.{Signal}
use Rattle.si_base.specs.Words.{is_digit, is_letter, is_name_byte, is_signal_name}
use Rattle.si_checks.proofs.SearchDecisions.{Decided}
use Rattle.si_insert.specs.Fresh.{IsTaken}
use Rattle.si_joins.specs.Gates.{place_of}
use Rattle.si_joins.specs.Lifted.{letters}

-- ---- the place of a name
pub found_named : (xs : List Signal) (name : List ℕ) → place_of xs name < length xs → IsTaken xs name
found_named [] name below = absurd (omega (arith, below))
found_named (x ∷ xs) name below = elim (cases_Bool (bytes_eq x.name name)) [
  | inl same ↦ (0, x, omega arith, refl, (bytes_eq-Decides x.name name).0 same)
  | inr other ↦ (let r = found_named xs name (let b = rw other at below in omega (arith, b)) in
      (suc r.0, r.1, (let inside = r.2 in omega (arith, inside)), r.3, r.4))
]

pub place_within : (xs : List Signal) (name : List ℕ) → place_of xs name ≤ length xs
place_within [] name = omega arith
place_within (x ∷ xs) name = elim (cases_Bool (bytes_eq x.name name)) [
  | inl same ↦ rw same (omega arith)
  | inr other ↦ rw other (let r = place_within xs name in omega (arith, r))
]

none_at : (xs : List Signal) (name : List ℕ) (k : ℕ) (x : Signal) → place_of xs name ≡ length xs → k < length xs
    → get_or xs k x ≡ x → x.name ≡ name → ⊥
none_at [] name k x all below at is = absurd (omega (arith, below))
none_at (y ∷ xs) name zero x all below at is =
    let same : bytes_eq y.name name ≡ true = (bytes_eq-Decides y.name name).1 (ap (λ (z : Signal). z.name) at ∙ is) in
    let first = rw same at all in omega (arith, first)
none_at (y ∷ xs) name (suc k) x all below at is = elim (cases_Bool (bytes_eq y.name name)) [
  | inl same ↦ (let first = rw same at all in absurd (omega (arith, first)))
  | inr other ↦ (let rest = rw other at all in
      none_at xs name k x (omega (arith, rest)) (omega (arith, below)) at is)
]

pub none_named : (xs : List Signal) (name : List ℕ) → place_of xs name ≡ length xs → IsTaken xs name → ⊥
none_named xs name all taken = none_at xs name taken.0 taken.1 all taken.2 taken.3 taken.4

pub taken_or_not : (xs : List Signal) (name : List ℕ) → Decided (IsTaken xs name)
taken_or_not xs name = elim (cases_lt (place_of xs name) (length xs)) [
  | inl below ↦ inl (found_named xs name below)
  | inr above ↦ inr (none_named xs name (let most = place_within xs name in omega (arith, above, most)))
]

-- ---- letters, one byte after another
all_more : (xs : List ℕ) (b : ℕ) → list_all is_digit (xs ++ b ∷ []) ≡ (list_all is_digit xs && list_all is_digit (b ∷ []))
all_more xs b = list_all-append is_digit xs (b ∷ [])

pub letters_digit : (xs : List ℕ) (b : ℕ) → is_digit b ≡ true → letters (xs ++ b ∷ []) ≡ letters xs
letters_digit [] b digit = rw digit refl
letters_digit (x ∷ xs) b digit = elim (cases_Bool (list_all is_digit (x ∷ xs))) [
  | inl all ↦ rw (all_more (x ∷ xs) b, all, digit) refl
  | inr some ↦ rw (all_more (x ∷ xs) b, some) (ap (λ (ys : List ℕ). x ∷ ys) (letters_digit xs b digit))
]

pub letters_other : (xs : List ℕ) (b : ℕ) → is_digit b ≡ false → letters (xs ++ b ∷ []) ≡ xs ++ b ∷ []
letters_other [] b other = rw other refl
letters_other (x ∷ xs) b other = elim (cases_Bool (list_all is_digit (x ∷ xs))) [
  | inl all ↦ rw (all_more (x ∷ xs) b, all, other) (ap (λ (ys : List ℕ). x ∷ ys) (letters_other xs b other))
  | inr some ↦ rw (all_more (x ∷ xs) b, some) (ap (λ (ys : List ℕ). x ∷ ys) (letters_other xs b other))
]

-- ---- the letters of a signal name are one
too_small : (x b : ℕ) → b < x → nat_le x b ≡ false
too_small x b less = elim (cases_Bool (nat_le x b)) [
  | inl is ↦ (let most = leb-true x b is in absurd (omega (arith, most, less)))
  | inr none ↦ none
]

digit_no_letter : (b : ℕ) → is_letter b ≡ true → is_digit b ≡ false
digit_no_letter b letter = elim (cases_Bool (is_digit b)) [
  | inl digit ↦ (
      let most = leb-true b 57 (and_parts (nat_le 48 b) (nat_le b 57) digit).1 in
      let gone = rw (
        too_small 65 b (omega (arith, most)),
        too_small 97 b (omega (arith, most)),
        ne_eqb b 95 (λ same. omega (arith, most, same)),
      ) at letter in
      absurd (true≢false (sym gone)))
  | inr other ↦ other
]

letters_bytes : (bs : List ℕ) → list_all is_name_byte bs ≡ true → list_all is_name_byte (letters bs) ≡ true
letters_bytes [] all = refl
letters_bytes (b ∷ bs) all =
    let parts = and_parts (is_name_byte b) (list_all is_name_byte bs) all in
    elim (cases_Bool (list_all is_digit (b ∷ bs))) [
      | inl digits ↦ rw digits refl
      | inr other ↦ rw other (and_from _ _ parts.0 (letters_bytes bs parts.1))
    ]

pub letters_named : (own : List ℕ) → is_signal_name own ≡ true → is_signal_name (letters own) ≡ true
letters_named [] is = is
letters_named (b ∷ bs) is =
    let parts = and_parts (is_letter b) (list_all is_name_byte bs) is in
    rw (digit_no_letter b parts.0) (and_from _ _ parts.0 (letters_bytes bs parts.1))
