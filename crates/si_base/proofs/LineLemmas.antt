use Rattle.std.proofs.Common.{◌≡◌, ℕ, suc, ◌<◌, ◌≤◌, max, Bool, true, false, not, ap, ◌∙◌, refl, arith, List, []}
use Rattle.std.proofs.Common.{◌∷◌, length, take, drop, get_or, eqb, inl, inr}
use Rattle.std.specs.List.{prefix_len}
use Rattle.std.proofs.lemmas.Bool.{cases_Bool, not-true, and_parts}
use Rattle.std.proofs.lemmas.List.{drop_more, length-drop}
use Rattle.std.proofs.lemmas.List.Sums.{prefix_len_stops}
use Rattle.si_base.specs.Lines.{put_first, lines_of, is_blank, is_plain, words_in}

abbrev inside_line : ℕ → Bool
inside_line b = not (eqb b 10)

-- the first line of a text that is not empty, and the lines after it
pub first_line : (b : ℕ) (bs : List ℕ) (n : ℕ) → n ≡ prefix_len inside_line (b ∷ bs)
    → lines_of (b ∷ bs) ≡ take n (b ∷ bs) ∷ lines_of (drop (suc n) (b ∷ bs))
first_line b [] n e = elim (cases_Bool (eqb b 10)) [ inl ends ↦ rw (e, ends) refl | inr goes ↦ rw (e, goes) refl ]
first_line b (c ∷ cs) n e = elim (cases_Bool (eqb b 10)) [
  | inl ends ↦ rw (e, ends) refl
  | inr goes ↦
      let e1 : n ≡ suc (prefix_len inside_line (c ∷ cs)) = omega (arith, rw goes at e) in
      rw (e1, goes, first_line c cs (prefix_len inside_line (c ∷ cs)) refl) refl
]

pub skip_blanks : (braces : Bool) (xs : List ℕ) (n : ℕ) → n ≡ prefix_len is_blank xs
    → words_in braces (drop n xs) ≡ words_in braces xs
skip_blanks braces [] n e = rw e refl
skip_blanks braces (b ∷ bs) n e = elim (cases_Bool (is_blank b)) [
  | inl blank ↦
      let e1 : n ≡ suc (prefix_len is_blank bs) = omega (arith, rw blank at e) in
      rw (e1, blank) (skip_blanks braces bs (prefix_len is_blank bs) refl)
  | inr dark ↦ let e1 : n ≡ 0 = rw dark at e in rw e1 refl
]

plain_dark : (braces : Bool) (c : ℕ) → is_plain braces c ≡ true → is_blank c ≡ false
plain_dark braces c plain = not-true (is_blank c) (and_parts _ _ plain).0

joins : (braces : Bool) (b c : ℕ) (cs : List ℕ) → is_blank b ≡ false → is_plain braces b ≡ true
    → is_plain braces c ≡ true → words_in braces (b ∷ c ∷ cs) ≡ put_first b (words_in braces (c ∷ cs))
joins braces b c cs dark plain goes = rw (plain, goes, dark) refl

pub first_word : (braces : Bool) (b : ℕ) (bs : List ℕ) (n : ℕ) → is_blank b ≡ false
    → n ≡ max (prefix_len (is_plain braces) (b ∷ bs)) 1
    → words_in braces (b ∷ bs) ≡ take n (b ∷ bs) ∷ words_in braces (drop n (b ∷ bs))
first_word braces b [] n dark e = elim (cases_Bool (is_plain braces b)) [
  | inl plain ↦ let e1 : n ≡ 1 = rw plain at e in rw (e1, plain, dark) refl
  | inr brace ↦ let e1 : n ≡ 1 = rw brace at e in rw (e1, brace, dark) refl
]
first_word braces b (c ∷ cs) n dark e = elim (cases_Bool (is_plain braces b)) [
  | inr brace ↦ let e1 : n ≡ 1 = rw brace at e in rw (e1, brace, dark) refl
  | inl plain ↦ elim (cases_Bool (is_plain braces c)) [
    | inr ends ↦
        let e1 : n ≡ 1 = rw (plain, ends) at e in
        rw (e1, plain, ends, dark) refl
    | inl goes ↦
        let run = prefix_len (is_plain braces) (c ∷ cs) in
        let some : 1 ≤ run = rw goes (omega arith) in
        let e1 : n ≡ suc run = omega (arith, rw plain at e) in
        let e2 : run ≡ max run 1 = omega arith in
        rw e1 (joins braces b c cs dark plain goes
        ∙ ap (put_first b) (first_word braces c cs run (plain_dark braces c goes) e2))
  ]
]

-- the byte at which the blanks stop is none
pub dark_after : (xs : List ℕ) (k y : ℕ) (ys : List ℕ) → k ≡ prefix_len is_blank xs → (y ∷ ys) ≡ drop k xs
    → is_blank y ≡ false
dark_after xs k y ys ek at =
    let within : k < length xs = omega (arith, length-drop k xs, ap length at) in
    let inside : prefix_len is_blank xs < length xs = rw (← ek) within in
    let here : y ≡ get_or xs k 0 = ap (λ l. get_or l 0 0) (at ∙ drop_more xs k 0 within) in
    rw (here, ek) (prefix_len_stops is_blank xs 0 inside)
