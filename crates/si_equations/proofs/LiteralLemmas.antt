-- The literals of a cube that is kept as two codes, from a signal on.
use Rattle.std.proofs.Common.{◌≡◌, ℕ, zero, suc, ◌+◌, ◌-◌, ◌/◌, ◌%◌, ◌^◌, ◌==◌, ◌<◌, ◌≤◌, true, false, List, [], ◌∷◌}
use Rattle.std.proofs.Common.{◌++◌, refl, sym, ap, ◌∙◌, append_assoc, arith, inl, inr}
use Rattle.std.specs.Int.{w128, trailing_zeros, bit_at}
use Rattle.std.proofs.lemmas.Bool.{cases_lt}
use Rattle.std.proofs.lemmas.List.{append-nil}
use Rattle.std.proofs.lemmas.Nat.{shr-shr, shr_le}
use Rattle.std.proofs.lemmas.Nat.Bits.{bit_at-trailing_zeros, bit_at-zero, bit_at_above}
use Rattle.si_base.specs.declared.ids.Literal.{Literal}
use Rattle.si_base.specs.Bits.{bit}
use Rattle.si_base.specs.Limits.{code_width}
use Rattle.si_cube.specs.Literals.{literals_from, literals_of}
use Rattle.si_cube.proofs.LiteralLemmas.{literals_from-none}

pub literals_left : ℕ → ℕ → ℕ → List Literal
literals_left care value i = literals_from (code_width - i) i care value

pub literals_left_all : (care value : ℕ) → literals_left care value 0 ≡ literals_of care value
unfolding literals_left literals_of
literals_left_all care value = refl

literals_skip : (care value i : ℕ) → i < code_width → bit care i ≡ false
    → literals_left care value (i + 1) ≡ literals_left care value i
unfolding literals_left
literals_skip care value i within absent =
    let more : code_width - i ≡ suc (code_width - (i + 1)) = omega arith in
    rw more (rw absent refl)

pub literals_more : (care value i : ℕ) (front : List Literal) → i < code_width → bit care i ≡ true
    → (front ++ record { sig = i; plain = bit value i } ∷ []) ++ literals_left care value (i + 1)
    ≡ front ++ literals_left care value i
unfolding literals_left
literals_more care value i front within here =
    let more : code_width - i ≡ suc (code_width - (i + 1)) = omega arith in
    rw more (rw here (simp append_assoc))

-- ---- the rest of a code, from a place on

rest_bit : (care at k : ℕ) → bit_at (care / 2 ^ at) k ≡ bit_at care (at + k)
rest_bit care at k = ap (λ x. x % 2) (shr-shr care at k)

no_bit_past : (care at : ℕ) → care / 2 ^ at ≡ 0 → (k : ℕ) → at ≤ k → bit care k ≡ false
no_bit_past care at none k past =
    let same : k ≡ at + (k - at) = omega (arith, past) in
    ap (bit care) same ∙ ap (λ b. b == 1) (sym (rest_bit care at (k - at)) ∙ ap (λ x. bit_at x (k - at)) none
    ∙ bit_at-zero (k - at))

-- where the rest is 0 there are no more literals
pub literals_left_none : (care value at : ℕ) → care / 2 ^ at ≡ 0 → literals_left care value at ≡ []
unfolding literals_left
literals_left_none care value at none = literals_from-none (code_width - at) at care value (no_bit_past care at none)

pub literals_left_past : (care value at : ℕ) → code_width ≤ at → literals_left care value at ≡ []
unfolding literals_left
literals_left_past care value at past =
    let nothing : code_width - at ≡ 0 = omega (arith, past) in
    rw nothing refl

skip_to : (care value at count : ℕ) → at + count ≤ code_width → ((k : ℕ) → k < count → bit care (at + k) ≡ false)
    → literals_left care value (at + count) ≡ literals_left care value at
skip_to care value at zero within none = (let same : at + 0 ≡ at = omega arith in ap (literals_left care value) same)
skip_to care value at (suc count) within none =
    let next : at + suc count ≡ (at + count) + 1 = omega arith in
    ap (literals_left care value) next
    ∙ literals_skip care value (at + count) (omega (arith, within)) (none count (omega arith))
    ∙ skip_to care value at count (omega (arith, within)) (λ k less. none k (omega (arith, less)))

-- the place of the next literal
abbrev pub next_place : ℕ → ℕ → ℕ
next_place care at = at + trailing_zeros w128 (care / 2 ^ at)

-- where the rest is not 0 it is within the code, and the literals from there on are those that are left
pub record IsNext (care value at : ℕ) : Type 0 where
  pub within : next_place care at < code_width
  pub there : bit care (next_place care at) ≡ true
  pub same : literals_left care value (next_place care at) ≡ literals_left care value at

is_within : (care at count : ℕ) → care < 2 ^ 128 → bit_at (care / 2 ^ at) count ≡ 1 → at + count < code_width
is_within care at count fits one = elim (cases_lt (at + count) 128) [
  | inl low ↦ low
  | inr high ↦
      let none = bit_at_above care 128 (at + count) fits high in
      absurd (omega (arith, one, rest_bit care at count, none))
]

pub next_literal : (care value at : ℕ) → care < 2 ^ 128 → 0 < care / 2 ^ at → IsNext care value at
next_literal care value at fits some =
    let rest = care / 2 ^ at in
    let small : rest < 2 ^ 128 = omega (arith, shr_le care at, fits) in
    let lowest = bit_at-trailing_zeros w128 rest some small in
    let within = is_within care at (trailing_zeros w128 rest) fits lowest.1 in record {
      within = within;
      there = ap (λ b. b == 1) (sym (rest_bit care at (trailing_zeros w128 rest)) ∙ lowest.1);
      same = skip_to care value at (trailing_zeros w128 rest) (omega (arith, within))
          (λ k less. ap (λ b. b == 1) (sym (rest_bit care at k) ∙ lowest.2 k less));
    }

-- it goes last, and the literals behind its place are left
literal_taken : (care value at : ℕ) (front : List Literal) → IsNext care value at
    → (front ++ record { sig = next_place care at; plain = bit value (next_place care at) } ∷ [])
    ++ literals_left care value (next_place care at + 1) ≡ front ++ literals_left care value at
literal_taken care value at front next =
    literals_more care value (next_place care at) front next.within next.there
    ∙ ap (λ (rest : List Literal). front ++ rest) next.same

-- the same, with the codes and the place as the code holds them
pub literal_pushed : (care value inner_care inner_value at place : ℕ) (front : List Literal) → inner_care ≡ care
    → inner_value ≡ value → place ≡ next_place inner_care at → IsNext inner_care inner_value at
    → (front ++ record { sig = next_place inner_care at; plain = bit inner_value (next_place inner_care at) } ∷ [])
    ++ literals_left care value (place + 1) ≡ front ++ literals_left care value at
literal_pushed care value inner_care inner_value at place front care_is value_is place_is next =
    rw (place_is, sym care_is, sym value_is) (literal_taken inner_care inner_value at front next)

-- where none is left, all were taken
pub all_taken : (care value at : ℕ) (front : List Literal)
    → front ++ literals_left care value at ≡ literals_left care value 0 → literals_left care value at ≡ []
    → front ≡ literals_of care value
all_taken care value at front holds none =
    sym (append-nil front) ∙ ap (λ (rest : List Literal). front ++ rest) (sym none) ∙ holds
    ∙ literals_left_all care value
