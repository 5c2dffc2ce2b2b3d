-- Lines of a text, one taken from the front.
use Rattle.std.proofs.Common.{◌≡◌, ℕ, zero, suc, ◌+◌, ◌<◌, ◌≤◌, ◌==◌, Bool, true, false, not, List, [], ◌∷◌, length}
use Rattle.std.proofs.Common.{take, drop, refl, sym, ap, ◌∙◌, arith, Some, None, inl, inr, add-one, if◌then◌else◌, ◌||◌}
use Rattle.std.proofs.Common.{eqb-true, ap₂, bytes_eq}
use Rattle.std.specs.List.{prefix_len}
use Rattle.std.proofs.lemmas.Bool.{cases_Bool, cases_lt}
use Rattle.si_base.specs.declared.fault.TextKind.TheVariants.{BadByte, NoEnd, BadLine}
use Rattle.si_words.specs.Lines.{Form, ended, tail_of, lines_fault, has_bad_byte_here, words_of, onto_head}
use Rattle.si_words.specs.Sums.{is_empty}
use Rattle.si_words.specs.Rows.{Left, begins_with, after_line, fault_of, TakesLine}

abbrev pub inside : ℕ → Bool
inside b = not (b == 10)

pub first_ended : (rest : List ℕ) (n : ℕ) → n ≡ prefix_len inside rest → n < length rest
    → (ended rest ≡ take n rest ∷ ended (drop (suc n) rest)) × (tail_of rest ≡ tail_of (drop (suc n) rest))
first_ended [] n e within = absurd (omega arith)
first_ended (b ∷ bs) n e within = elim (cases_Bool (b == 10)) [
  | inl ends ↦ let e1 : n ≡ 0 = rw ends at e in (rw (e1, ends) refl, rw (e1, ends) refl)
  | inr goes ↦
      let e1 : n ≡ suc (prefix_len inside bs) = omega (arith, rw goes at e) in
      let later = first_ended bs (prefix_len inside bs) refl (omega arith) in
      (rw (e1, goes, later.0) refl, rw (e1, goes, later.0) later.1)
]

pub last_ended : (rest : List ℕ) → length rest ≤ prefix_len inside rest → (ended rest ≡ []) × (tail_of rest ≡ rest)
last_ended [] past = (refl, refl)
last_ended (b ∷ bs) past = elim (cases_Bool (b == 10)) [
  | inl ends ↦ absurd (omega (arith, rw ends at past))
  | inr goes ↦
      let later = last_ended bs (omega (arith, rw goes at past)) in
      (rw (goes, later.0) refl, rw (goes, later.0) (ap (λ (l : List ℕ). b ∷ l) later.1))
]

take_past : (xs : List ℕ) (n : ℕ) → length xs ≤ n → take n xs ≡ xs
take_past [] zero past = refl
take_past [] (suc n) past = refl
take_past (x ∷ xs) zero past = absurd (omega arith)
take_past (x ∷ xs) (suc n) past = ap (λ (l : List ℕ). x ∷ l) (take_past xs n (omega arith))

abbrev left_of : ℕ → List ℕ → Left
left_of number rest = record { number = number; lines = ended rest; tail = tail_of rest }

pub bad_row : (rest line : List ℕ) (n number : ℕ) (form : Form) (forms : List Form) → n ≡ prefix_len inside rest
    → line ≡ take n rest → has_bad_byte_here line ≡ true
    → fault_of (form ∷ forms) (left_of number rest) ≡ Some (number, BadByte)
bad_row rest line n number form forms e is bad = elim (cases_lt n (length rest)) [
  | inl within ↦ rw ((first_ended rest n e within).0, ← is, bad) refl
  | inr past ↦ let both = last_ended rest (rw e at past) in
      rw (both.0, both.1) (rw (is ∙ take_past rest n past) at (bad_tail line bad))
]
  where
    bad_tail : (tail : List ℕ) → has_bad_byte_here tail ≡ true
        → lines_fault number (form ∷ forms) [] tail ≡ Some (number, BadByte)
    bad_tail tail is_bad = rw is_bad refl

pub last_row : (rest line : List ℕ) (n number : ℕ) (form : Form) (forms : List Form) → n ≡ prefix_len inside rest
    → line ≡ take n rest → has_bad_byte_here line ≡ false → length rest ≤ n
    → fault_of (form ∷ forms) (left_of number rest) ≡ Some (number, NoEnd)
last_row rest line n number form forms e is good past =
    let both = last_ended rest (rw e at past) in
    rw (both.0, both.1) (rw (is ∙ take_past rest n past) at (good_tail line good))
  where
    good_tail : (tail : List ℕ) → has_bad_byte_here tail ≡ false
        → lines_fault number (form ∷ forms) [] tail ≡ Some (number, NoEnd)
    good_tail tail is_good = rw is_good refl

pub takes_row : (rest line after : List ℕ) (n number : ℕ) (words : List (List ℕ)) → n ≡ prefix_len inside rest
    → n < length rest → line ≡ take n rest → after ≡ drop (n + 1) rest → has_bad_byte_here line ≡ false
    → words ≡ words_of line → TakesLine (left_of number rest) (left_of (number + 1) after) words
takes_row rest line after n number words e within is after_is good words_are = record {
  line = line;
  lines = rw (is, after_is, add-one) (first_ended rest n e within).0;
  tail = rw (after_is, add-one) (first_ended rest n e within).1;
  number = refl;
  clean = good;
  words_are = words_are;
}

-- a line that has its form leaves the fault to the lines after it
pub row_step : (form : Form) (forms : List Form) (old new : Left) (words : List (List ℕ)) → TakesLine old new words
    → form words ≡ None → fault_of (form ∷ forms) old ≡ fault_of forms new
row_step form forms old new words takes good =
    rw (takes.lines, takes.tail, takes.number, takes.clean, ← takes.words_are, good) refl

-- where no line is due, whatever is left is a fault
pub all_read : (rest : List ℕ) (number : ℕ) → rest ≡ [] → fault_of [] (left_of number rest) ≡ None
all_read rest number e = rw e refl

pub more_is_left : (rest : List ℕ) (number : ℕ) → (rest ≡ [] → ⊥)
    → fault_of [] (left_of number rest) ≡ Some (number, BadLine)
more_is_left [] number some = absurd (some refl)
more_is_left (b ∷ bs) number some = elim (cases_Bool (b == 10)) [
  | inl ends ↦ rw ends refl
  | inr goes ↦ rw goes (by_lines (ended bs))
]
  where
    by_lines : (lines : List (List ℕ)) → lines_fault number [] (onto_head b lines)
        (if false || not (is_empty lines) then tail_of bs else b ∷ tail_of bs) ≡ Some (number, BadLine)
    by_lines [] = refl
    by_lines (l ∷ ls) = refl

pub nothing : (xs : List ℕ) → (length xs == 0) ≡ true → xs ≡ []
nothing [] e = refl
nothing (x ∷ xs) e = let none : length (x ∷ xs) ≡ 0 = eqb-true _ _ e in absurd (omega arith)

pub something : (xs : List ℕ) → (length xs == 0) ≡ false → xs ≡ [] → ⊥
something xs e is = clash (sym (rw is at e))
  where
    clash : false ≡ true → ⊥
    clash h = cc

-- ---- the next line, where it is this one
pub begins_row : (rest first line after : List ℕ) (n number : ℕ) → n ≡ prefix_len inside rest → n < length rest
    → first ≡ take n rest → after ≡ drop (n + 1) rest → bytes_eq line first ≡ true
    → (begins_with line (ended rest) ≡ true) × (left_of (number + 1) after ≡ after_line (left_of number rest))
begins_row rest first line after n number e within is after_is same =
    let both = first_ended rest n e within in
    let make : List (List ℕ) → List ℕ → Left =
    λ lines tail. record { number = number + 1; lines = lines; tail = tail } in
    let next : after ≡ drop (suc n) rest = rw (after_is, add-one) refl in
    let lines : ended after ≡ drop 1 (ended rest) = ap ended next ∙ ap (drop 1) (sym both.0) in
    let tail : tail_of after ≡ tail_of rest = ap tail_of next ∙ sym both.1 in (
      rw (both.0, ← is) same,
      ap₂ make lines tail,
    )

pub another_row : (rest first line : List ℕ) (n : ℕ) → n ≡ prefix_len inside rest → first ≡ take n rest
    → (n < length rest → bytes_eq line first ≡ false) → begins_with line (ended rest) ≡ false
another_row rest first line n e is differs = elim (cases_lt n (length rest)) [
  | inl within ↦ rw ((first_ended rest n e within).0, ← is) (differs within)
  | inr past ↦ rw (last_ended rest (rw e at past)).0 refl
]
