-- What the writers of sums have still to add, a step at a time.
use Rattle.std.proofs.Common.{◌≡◌, ◌≢◌, ℕ, zero, suc, ◌+◌, ◌-◌, ◌<◌, ◌≤◌, ◌^◌, ◌==◌, true, false, List, [], ◌∷◌, ◌++◌}
use Rattle.std.proofs.Common.{refl, sym, ◌∙◌, map, drop, append_assoc, arith, inl, inr, lit<}
use Rattle.std.proofs.lemmas.Bool.{cases_eq, cases_Bool}
use Rattle.std.specs.Int.{bit_at}
use Rattle.std.proofs.lemmas.Nat.Bits.{bit_at-zero, bit_at-lt, same_from_bits_below}
use Rattle.si_base.specs.declared.ids.Literal.{Literal}
use Rattle.si_base.specs.declared.graph.Signal.{Signal}
use Rattle.si_base.specs.Bits.{bit}
use Rattle.si_base.specs.Limits.{code_width}
use Rattle.si_base.specs.Netlist.{Sum}
use Rattle.si_base.specs.NetlistText.{literal_word, cube_words, more_cubes}
use Rattle.si_cube.specs.Literals.{literals_from, literals_of}
use Rattle.si_words.specs.Loops.Writing.{spaced}

-- the cubes from the i-th on
abbrev pub cubes_from : List Signal → Sum → ℕ → List ℕ
cubes_from signals cubes i = spaced (more_cubes signals (drop i cubes))

-- the literals from the i-th on
abbrev pub literals_after : List Signal → List Literal → ℕ → List ℕ
literals_after signals literals i = spaced (map (literal_word signals) (drop i literals))

-- the words of a cube's literals from signal i on
pub literals_left : List Signal → ℕ → ℕ → ℕ → List ℕ
literals_left signals care value i = spaced (map (literal_word signals) (literals_from (code_width - i) i care value))

pub literals_left_all : (signals : List Signal) (care value : ℕ)
    → literals_left signals care value 0 ≡ spaced (map (literal_word signals) (literals_of care value))
unfolding literals_left literals_of
literals_left_all signals care value = refl

pub literals_left_none : (signals : List Signal) (care value : ℕ) → literals_left signals care value code_width ≡ []
unfolding literals_left
literals_left_none signals care value = refl

pub literals_skip : (signals : List Signal) (care value i : ℕ) → i < code_width → bit care i ≡ false
    → literals_left signals care value (i + 1) ≡ literals_left signals care value i
unfolding literals_left
literals_skip signals care value i within absent =
    let more : code_width - i ≡ suc (code_width - (i + 1)) = omega arith in
    rw more (rw absent refl)

pub literals_more : (signals : List Signal) (care value i : ℕ) (text : List ℕ) → i < code_width → bit care i ≡ true
    → (text ++ 32 ∷ literal_word signals (record { sig = i; plain = bit value i }))
    ++ literals_left signals care value (i + 1) ≡ text ++ literals_left signals care value i
unfolding literals_left
literals_more signals care value i text within here =
    let more : code_width - i ≡ suc (code_width - (i + 1)) = omega arith in
    rw more (rw here (simp append_assoc))

none_of_zero : (value : ℕ) → literals_of 0 value ≡ []
unfolding literals_of
none_of_zero value = refl

-- a cube that cares for nothing has the word 1
pub cube_none : (signals : List Signal) (care value : ℕ) (text : List ℕ) → care ≡ 0
    → text ++ 32 ∷ 49 ∷ [] ≡ text ++ spaced (cube_words signals (literals_of care value))
cube_none signals care value text none = rw (none, none_of_zero value) refl

no_bit : (n i care value j : ℕ) → literals_from n i care value ≡ [] → i ≤ j → j < i + n → bit care j ≡ false
no_bit zero i care value j none low high = absurd (omega arith)
no_bit (suc n) i care value j none low high =
    elim (cases_Bool (bit care i)) [
      | inl here ↦ (let some = rw here at none in cc)
      | inr absent ↦ elim (cases_eq j i) [
        | inl same ↦ rw same absent
        | inr other ↦ no_bit n (i + 1) care value j (rw absent at none) (omega arith) (omega arith)
      ]
    ]

zero_from_test : (b : ℕ) → b < 2 → (b == 1) ≡ false → b ≡ 0
zero_from_test b small other =
    elim (cases_eq b 1) [
      | inl one ↦ (let no = rw one at other in cc)
      | inr apart ↦ omega arith
    ]

cares_for_none : (care value : ℕ) → care < 2 ^ code_width → literals_of care value ≡ [] → care ≡ 0
unfolding literals_of
cares_for_none care value small none =
    same_from_bits_below code_width care 0 small (lit< tt) (λ i within. zero_from_test (bit_at care i)
    (bit_at-lt care i) (no_bit code_width 0 care value i none (omega arith) (omega arith)) ∙ sym (bit_at-zero i))

words_of_some : (signals : List Signal) (cube : List Literal) → cube ≢ []
    → map (literal_word signals) cube ≡ cube_words signals cube
words_of_some signals [] some = absurd (some refl)
words_of_some signals (l ∷ ls) some = refl

-- a cube that cares for some signal has the words of its literals
pub cube_some : (signals : List Signal) (care value : ℕ) → care < 2 ^ code_width → care ≢ 0
    → map (literal_word signals) (literals_of care value) ≡ cube_words signals (literals_of care value)
cube_some signals care value small some =
    words_of_some signals (literals_of care value) (λ none. some (cares_for_none care value small none))
