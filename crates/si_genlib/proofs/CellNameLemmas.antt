-- The names of cells: they are signal names, and no two cells have the same.
use Rattle.std.proofs.Common.{◌≡◌, ℕ, zero, suc, ◌+◌, ◌<◌, ◌≤◌, Bool, true, false, if◌then◌else◌, List, [], ◌∷◌, ◌++◌}
use Rattle.std.proofs.Common.{length, map, nat_le, bytes_eq, refl, sym, ◌∙◌, inl, inr, arith}
use Rattle.std.specs.List.{list_all}
use Rattle.std.proofs.lemmas.Bool.{cases_Bool, true≢false, and_from, and_parts, le-leb, lt-leb, leb-true}
use Rattle.std.proofs.lemmas.List.{length_push}
use Rattle.std.proofs.lemmas.List.Folds.{list_all-append}
use Rattle.si_base.specs.Bytes.{underscore}
use Rattle.si_base.specs.Words.{is_letter, is_name_byte, is_signal_name}
use Rattle.si_words.specs.Names.{stands_in}
use Rattle.si_cell.proofs.CubeLemmas.{names_same}
use Rattle.si_genlib.specs.Gate.{lawful_byte, lawful, fresh, cell_name}

-- ---- signal names
lawful_is_name_byte : (b : ℕ) → is_name_byte (lawful_byte b) ≡ true
lawful_is_name_byte b = elim (cases_Bool (is_name_byte b)) [ inl fine ↦ rw fine fine | inr bad ↦ rw bad refl ]

all_lawful : (bs : List ℕ) → list_all is_name_byte (map lawful_byte bs) ≡ true
all_lawful [] = refl
all_lawful (b ∷ bs) = and_from _ _ (lawful_is_name_byte b) (all_lawful bs)

lawful_is_name : (name : List ℕ) → 0 < length name → is_signal_name (lawful name) ≡ true
lawful_is_name [] some = absurd (omega (arith, some))
lawful_is_name (b ∷ bs) some = elim (cases_Bool (is_letter (lawful_byte b))) [
  | inl letter ↦ rw letter (and_from _ _ letter (all_lawful bs))
  | inr other ↦ rw other (and_from (is_name_byte (lawful_byte b)) _ (lawful_is_name_byte b) (all_lawful bs))
]

longer_is_name : (name : List ℕ) → is_signal_name name ≡ true → is_signal_name (name ++ underscore ∷ []) ≡ true
longer_is_name [] is = absurd (true≢false (sym is))
longer_is_name (b ∷ bs) is =
    let parts = and_parts (is_letter b) (list_all is_name_byte bs) is in
    and_from _ _ parts.0 (list_all-append is_name_byte bs (underscore ∷ []) ∙ and_from _ _ parts.1 refl)

fresh_is_name : (n : ℕ) (names : List (List ℕ)) (name : List ℕ) → is_signal_name name ≡ true
    → is_signal_name (fresh n names name) ≡ true
fresh_is_name zero names name is = is
fresh_is_name (suc n) names name is = elim (cases_Bool (stands_in names name)) [
  | inl taken ↦ rw taken (fresh_is_name n names (name ++ underscore ∷ []) (longer_is_name name is))
  | inr free ↦ rw free is
]

pub cell_name_is_name : (names : List (List ℕ)) (name : List ℕ) → 0 < length name
    → is_signal_name (cell_name names name) ≡ true
cell_name_is_name names name some = fresh_is_name (length names) names (lawful name) (lawful_is_name name some)

-- ---- names that are free
-- how many of the names are at least so long
long : ℕ → List (List ℕ) → ℕ
long n [] = 0
long n (name ∷ names) = (if nat_le n (length name) then 1 else 0) + long n names

long_few : (n : ℕ) (names : List (List ℕ)) → long n names ≤ length names
unfolding long
long_few n [] = omega arith
long_few n (name ∷ names) = let rest = long_few n names in by_test (nat_le n (length name)) rest
  where
    by_test : (b : Bool) → long n names ≤ length names → (if b then 1 else 0) + long n names ≤ suc (length names)
    by_test true less = omega (arith, less)
    by_test false less = omega (arith, less)

long_less : (n : ℕ) (names : List (List ℕ)) → long (n + 1) names ≤ long n names
unfolding long
long_less n [] = omega arith
long_less n (name ∷ names) = let rest = long_less n names in elim (cases_Bool (nat_le (n + 1) (length name))) [
  | inl longer ↦
      let reach : nat_le n (length name) ≡ true = le-leb _ _ (omega (arith, leb-true _ _ longer)) in
      rw (longer, reach) (omega (arith, rest))
  | inr other ↦ rw other (omega (arith, rest))
]

-- a name that stands among them is one of those that are as long, and none of the longer ones
taken_counts : (names : List (List ℕ)) (name : List ℕ) → stands_in names name ≡ true
    → long (length name + 1) names < long (length name) names
unfolding long
taken_counts [] name there = absurd (true≢false (sym there))
taken_counts (other ∷ names) name there = elim (cases_Bool (bytes_eq name other)) [
  | inl same ↦
      let is : name ≡ other = names_same name other same in
      let long_too : nat_le (length name) (length other) ≡ true = rw is (le-leb _ _ (omega arith)) in
      let not_longer : nat_le (length name + 1) (length other) ≡ false = rw is (lt-leb _ _ (omega arith)) in
      let rest = long_less (length name) names in
      rw (long_too, not_longer) (omega (arith, rest))
  | inr apart ↦
      let rest = taken_counts names name (rw apart at there) in
      elim (cases_Bool (nat_le (length name + 1) (length other))) [
        | inl longer ↦
            let reach : nat_le (length name) (length other) ≡ true = le-leb _ _ (omega (arith, leb-true _ _ longer)) in
            rw (longer, reach) (omega (arith, rest))
        | inr shorter ↦ rw shorter (omega (arith, rest))
      ]
]

fresh_is_free : (n : ℕ) (names : List (List ℕ)) (name : List ℕ) → long (length name) names ≤ n
    → stands_in names (fresh n names name) ≡ false
fresh_is_free zero names name few = elim (cases_Bool (stands_in names name)) [
  | inl taken ↦ (let counts = taken_counts names name taken in absurd (omega (arith, few, counts)))
  | inr free ↦ free
]
fresh_is_free (suc n) names name few = elim (cases_Bool (stands_in names name)) [
  | inl taken ↦ (
      let counts = taken_counts names name taken in
      let one = length_push name underscore in
      rw taken (fresh_is_free n names (name ++ underscore ∷ []) (rw one (omega (arith, few, counts)))))
  | inr free ↦ rw free free
]

pub cell_name_is_free : (names : List (List ℕ)) (name : List ℕ) → stands_in names (cell_name names name) ≡ false
cell_name_is_free names name = fresh_is_free (length names) names (lawful name) (long_few (length (lawful name)) names)
