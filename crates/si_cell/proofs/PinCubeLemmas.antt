-- Cubes whose literals are all of few signals.
use Rattle.std.proofs.Common.{◌≡◌, ℕ, zero, suc, ◌+◌, ◌-◌, ◌<◌, ◌≤◌, ◌&&◌, ◌^◌, ◌%◌, Bool, true, false, List, ◌∷◌}
use Rattle.std.proofs.Common.{bit_and, nat_lt, if◌then◌else◌, All, refl, sym, ap, ◌∙◌, arith, inl, inr}
use Rattle.std.proofs.lemmas.Bool.{true≢false}
use Rattle.std.proofs.lemmas.Bool.Decides.{eqb_tells, leb_tells}
use Rattle.std.proofs.lemmas.List.Elements.{All-head, All-tail}
use Rattle.std.specs.Int.Bits.{and_mask}
use Rattle.si_base.specs.Bits.{bit}
use Rattle.si_base.specs.Limits.{code_width}
use Rattle.si_base.specs.declared.ids.Literal.{Literal}
use Rattle.si_base.proofs.BitFacts.{same_codes, bit-and}
use Rattle.si_cube.specs.Literals.{literals_from, literals_of, IsWithin}
use Rattle.si_cube.proofs.LiteralLemmas.{below_width, bit-ones}
use Rattle.si_cell.specs.Limits.{max_pins}

abbrev AreLow : List Literal → Type 0
AreLow literals = All (λ (l : Literal). l.sig ≤ max_pins) literals

-- a signal that the cube cares for has a literal
cared_low : (n i care value k : ℕ) → AreLow (literals_from n i care value) → i ≤ k → k < i + n → bit care k ≡ true
    → k ≤ max_pins
cared_low zero i care value k low from below there = absurd (omega (arith, from, below))
cared_low (suc n) i care value k low from below there = elim (eqb_tells i k) [
  | inl same ↦ (let first = by_head (bit care i) (ap (bit care) same.1 ∙ there) low in omega (arith, first, same.1))
  | inr other ↦
      let later : i < k = grind arith in
      cared_low n (i + 1) care value k (by_tail (bit care i) low) (omega (arith, later)) (omega (arith, below)) there
]
  where
    rest : List Literal
    rest = literals_from n (i + 1) care value

    by_head : (b : Bool) → b ≡ true → AreLow (if b then record { sig = i; plain = bit value i } ∷ rest else rest)
        → i ≤ max_pins
    by_head true e all = All-head (λ (l : Literal). l.sig ≤ max_pins) _ rest all
    by_head false e all = absurd (true≢false (sym e))

    by_tail : (b : Bool) → AreLow (if b then record { sig = i; plain = bit value i } ∷ rest else rest) → AreLow rest
    by_tail true all = All-tail (λ (l : Literal). l.sig ≤ max_pins) _ rest all
    by_tail false all = all

-- a number that has only bits for pins and the own output takes one byte
one_byte : (n : ℕ) → ((k : ℕ) → bit n k ≡ true → k ≤ max_pins) → n < 2 ^ 8
one_byte n low =
    let masked : n ≡ bit_and n (2 ^ 8 - 1) = same_codes n (bit_and n (2 ^ 8 - 1)) (λ k. sym (bit-and n (2 ^ 8 - 1) k
    ∙ ap (λ (b : Bool). bit n k && b) (bit-ones 8 k) ∙ by_bit k (bit n k) (low k))) in
    let remainder : bit_and n (2 ^ 8 - 1) ≡ n % 2 ^ 8 = and_mask n 8 in
    omega (arith, masked, remainder)
  where
    by_bit : (k : ℕ) (b : Bool) → (b ≡ true → k ≤ max_pins) → (b && nat_lt k 8) ≡ b
    by_bit k true few = elim (leb_tells (suc k) 8) [
      | inl below ↦ below.0
      | inr above ↦ (let at_most = few refl in absurd (omega (arith, at_most, above.1)))
    ]
    by_bit k false few = refl

-- a cube with only such literals
module _ (care value : ℕ) (small : care < 2 ^ code_width) (low : AreLow (literals_of care value)) where
  cared : (k : ℕ) → bit care k ≡ true → k ≤ max_pins
  unfolding literals_of
  cared k there = cared_low code_width 0 care value k low (omega arith) (omega (arith, below_width care k small there))
      there

  pub narrow_care : care < 2 ^ 8
  narrow_care = one_byte care cared

  pub narrow_value : IsWithin care value → value < 2 ^ 8
  narrow_value within = one_byte value (λ k there. cared k (within k there))
