-- The product of two cubes that are kept as codes, and the cube of one literal.
use Rattle.std.proofs.Common.{◌≡◌, ◌≢◌, ℕ, zero, suc, ◌+◌, ◌<◌, ◌≤◌, ◌^◌, ◌==◌, ◌&&◌, ◌||◌, not, Bool, true, false}
use Rattle.std.proofs.Common.{List, [], ◌∷◌, if◌then◌else◌, Option, Some, None, option_map, option_and_then, bit_and}
use Rattle.std.proofs.Common.{bit_or, bit_xor, refl, sym, ap, ◌∙◌, arith, inl, inr}
use Rattle.std.proofs.lemmas.Bool.{true≢false, cases_Bool, cases_lt, cases_eq, lt-ltb, le-ltb, eq-eqb, ne_eqb}
use Rattle.std.proofs.lemmas.Bool.{and_parts}
use Rattle.std.proofs.lemmas.Nat.Bits.{bit_at-pow_same, bit_at-pow_other}
use Rattle.std.proofs.Math.Bool.{or-false, and-false}
use mathlib.Core.Bool.{beq}
use Rattle.si_base.specs.declared.ids.Literal.{Literal}
use Rattle.si_base.specs.Bits.{bit}
use Rattle.si_base.specs.Limits.{code_width}
use Rattle.si_base.proofs.BitFacts.{same_codes, bit-and, bit-or, bit-zero}
use Rattle.si_cube.specs.Literals.{literals_from, literals_of, IsWithin}
use Rattle.si_cube.proofs.LiteralLemmas.{bit-xor, below_width, literals_from-none}
use Rattle.si_from_equations.specs.Sums.{with_literal, product}

abbrev pub literal : ℕ → Bool → Literal
literal i plain = record { sig = i; plain = plain }

abbrev in_front : Literal → Option (List Literal) → Option (List Literal)
in_front l cube = option_map (λ literals. l ∷ literals) cube

-- ---- a literal beside the literals from a signal on

-- one whose signal stands before theirs goes in front
goes_in_front : (l : Literal) (n i care value : ℕ) → l.sig < i
    → with_literal l (literals_from n i care value) ≡ Some (l ∷ literals_from n i care value)
goes_in_front l zero i care value below = refl
goes_in_front l (suc n) i care value below =
    by_bit (bit care i) (goes_in_front l n (i + 1) care value (omega arith))
  where
    by_bit : (b : Bool)
        → with_literal l (literals_from n (i + 1) care value) ≡ Some (l ∷ literals_from n (i + 1) care value)
        → with_literal l (if b then literal i (bit value i) ∷ literals_from n (i + 1) care value
        else literals_from n (i + 1) care value)
        ≡ Some (l ∷ (if b then literal i (bit value i) ∷ literals_from n (i + 1) care value
        else literals_from n (i + 1) care value))
    by_bit true later = rw (lt-ltb l.sig i below) refl
    by_bit false later = later

-- one whose signal stands behind that of the first literal goes behind it
goes_behind : (l m : Literal) (cube : Option (List Literal)) → m.sig < l.sig
    → option_and_then (with_literal l) (in_front m cube) ≡ in_front m (option_and_then (with_literal l) cube)
goes_behind l m None above = refl
goes_behind l m (Some literals) above =
    rw (le-ltb l.sig m.sig (omega arith), ne_eqb l.sig m.sig (omega arith)) refl

-- the first literal of the one cube stays in front, where its signal stands before those of the other
stays_in_front : (m : Literal) (cube : List Literal) (n i care value : ℕ) → m.sig < i
    → product (literals_from n i care value) (m ∷ cube) ≡ in_front m (product (literals_from n i care value) cube)
stays_in_front m cube zero i care value below = refl
stays_in_front m cube (suc n) i care value below =
    by_bit (bit care i) (stays_in_front m cube n (i + 1) care value (omega arith))
  where
    by_bit : (b : Bool)
        → product (literals_from n (i + 1) care value) (m ∷ cube)
        ≡ in_front m (product (literals_from n (i + 1) care value) cube)
        → product (if b then literal i (bit value i) ∷ literals_from n (i + 1) care value
        else literals_from n (i + 1) care value) (m ∷ cube)
        ≡ in_front m (product (if b then literal i (bit value i) ∷ literals_from n (i + 1) care value
        else literals_from n (i + 1) care value) cube)
    by_bit true later = ap (option_and_then (with_literal (literal i (bit value i)))) later
        ∙ goes_behind (literal i (bit value i)) m (product (literals_from n (i + 1) care value) cube) below
    by_bit false later = later

-- ---- what stands at one signal
abbrev unless_met : Bool → List Literal → Option (List Literal)
unless_met met cube = if met then None else Some cube

still_unless : (met : Bool) (l : Literal) (cube : List Literal)
    → in_front l (unless_met met cube) ≡ unless_met met (l ∷ cube)
still_unless true l cube = refl
still_unless false l cube = refl

one_unless : (met : Bool) (l : Literal) (cube : List Literal) → with_literal l cube ≡ Some (l ∷ cube)
    → option_and_then (with_literal l) (unless_met met cube) ≡ unless_met met (l ∷ cube)
one_unless true l cube front = refl
one_unless false l cube front = front

both_unless : (met : Bool) (i : ℕ) (v w : Bool) (cube : List Literal)
    → option_and_then (with_literal (literal i v)) (in_front (literal i w) (unless_met met cube))
    ≡ unless_met (((not (beq v w) && true) && true) || met) (literal i (v || w) ∷ cube)
both_unless true i true true cube = refl
both_unless true i true false cube = refl
both_unless true i false true cube = refl
both_unless true i false false cube = refl
both_unless false i true true cube = rw (le-ltb i i (omega arith), eq-eqb i i refl) refl
both_unless false i true false cube = rw (le-ltb i i (omega arith), eq-eqb i i refl) refl
both_unless false i false true cube = rw (le-ltb i i (omega arith), eq-eqb i i refl) refl
both_unless false i false false cube = rw (le-ltb i i (omega arith), eq-eqb i i refl) refl

-- ---- two cubes
absent : (care value i : ℕ) → IsWithin care value → bit care i ≡ false → bit value i ≡ false
absent care value i within none = elim (cases_Bool (bit value i)) [
  | inl one ↦ absurd (true≢false (sym (within i one) ∙ none))
  | inr other ↦ other
]

module _ (care value care2 value2 : ℕ) where
  -- the signals of which the one has a literal, and the other its complement
  abbrev pub contradictions : ℕ
  contradictions = bit_and (bit_and (bit_xor value value2) care) care2

  abbrev meet_at : ℕ → Bool
  meet_at i = (not (beq (bit value i) (bit value2 i)) && bit care i) && bit care2 i

  abbrev meet_from : ℕ → ℕ → Bool
  meet_from zero i = false
  meet_from (suc n) i = meet_at i || meet_from n (i + 1)

  bit_meets : (i : ℕ) → bit contradictions i ≡ meet_at i
  bit_meets i = bit-and (bit_and (bit_xor value value2) care) care2 i
      ∙ ap (λ (b : Bool). b && bit care2 i) (bit-and (bit_xor value value2) care i
      ∙ ap (λ (b : Bool). b && bit care i) (bit-xor value value2 i))

  none_meet : (n i : ℕ) → ((k : ℕ) → meet_at k ≡ false) → meet_from n i ≡ false
  none_meet zero i none = refl
  none_meet (suc n) i none = rw (none i) (none_meet n (i + 1) none)

  none_met : (n i : ℕ) → meet_from n i ≡ false → (k : ℕ) → i ≤ k → k < i + n → meet_at k ≡ false
  none_met zero i none k low high = absurd (omega arith)
  none_met (suc n) i none k low high = elim (cases_Bool (meet_at i)) [
    | inl met ↦ absurd (true≢false (rw met at none))
    | inr apart ↦ elim (cases_lt i k) [
      | inl later ↦ none_met n (i + 1) (rw apart at none) k (omega arith) (omega arith)
      | inr here ↦ (let same : k ≡ i = omega arith in rw same apart)
    ]
  ]

  module _ (within : IsWithin care value) (within2 : IsWithin care2 value2) where
    joined : (n i : ℕ) → product (literals_from n i care value) (literals_from n i care2 value2)
        ≡ unless_met (meet_from n i) (literals_from n i (bit_or care care2) (bit_or value value2))
    joined zero i = refl
    joined (suc n) i = rw (bit-or care care2 i, bit-or value value2 i)
        (by_bits (bit care i) (bit care2 i) (bit value i) (bit value2 i) (absent care value i within)
        (absent care2 value2 i within2) (joined n (i + 1)))
      where
        rest : List Literal
        rest = literals_from n (i + 1) care value

        rest2 : List Literal
        rest2 = literals_from n (i + 1) care2 value2

        both : List Literal
        both = literals_from n (i + 1) (bit_or care care2) (bit_or value value2)

        by_bits : (a b v w : Bool) → (a ≡ false → v ≡ false) → (b ≡ false → w ≡ false)
            → product rest rest2 ≡ unless_met (meet_from n (i + 1)) both
            → product (if a then literal i v ∷ rest else rest) (if b then literal i w ∷ rest2 else rest2)
            ≡ unless_met (((not (beq v w) && a) && b) || meet_from n (i + 1))
            (if a || b then literal i (v || w) ∷ both else both)
        by_bits false false v w none none2 later = rw (and-false (not (beq v w))) later
        by_bits false true v w none none2 later = rw (none refl, and-false (not (beq false w)))
            (stays_in_front (literal i w) rest2 n (i + 1) care value (omega arith)
            ∙ ap (in_front (literal i w)) later ∙ still_unless (meet_from n (i + 1)) (literal i w) both)
        by_bits true false v w none none2 later =
            rw (none2 refl, and-false (not (beq v false) && true), or-false v)
            (ap (option_and_then (with_literal (literal i v))) later
            ∙ one_unless (meet_from n (i + 1)) (literal i v) both (goes_in_front (literal i v) n (i + 1)
            (bit_or care care2) (bit_or value value2) (omega arith)))
        by_bits true true v w none none2 later =
            ap (option_and_then (with_literal (literal i v)))
            (stays_in_front (literal i w) rest2 n (i + 1) care value (omega arith) ∙ ap (in_front (literal i w)) later)
            ∙ both_unless (meet_from n (i + 1)) i v w both

  contradictions_are : meet_from code_width 0 ≡ false → care2 < 2 ^ code_width → contradictions ≡ 0
  contradictions_are none small = same_codes contradictions 0 (λ k. bit_meets k ∙ apart k ∙ sym (bit-zero k))
    where
      apart : (k : ℕ) → meet_at k ≡ false
      apart k = elim (cases_Bool (meet_at k)) [
        | inl met ↦ none_met code_width 0 none k (omega arith)
            (below_width care2 k small (and_parts (not (beq (bit value k) (bit value2 k)) && bit care k) (bit care2 k)
            met).1)
        | inr other ↦ other
      ]

pub product_none : (care value care2 value2 : ℕ) → IsWithin care value → IsWithin care2 value2
    → care2 < 2 ^ code_width → contradictions care value care2 value2 ≢ 0
    → product (literals_of care value) (literals_of care2 value2) ≡ None
unfolding literals_of
product_none care value care2 value2 within within2 small some =
    elim (cases_Bool (meet_from care value care2 value2 code_width 0)) [
      | inl met ↦ joined care value care2 value2 within within2 code_width 0 ∙ rw met refl
      | inr apart ↦ absurd (some (contradictions_are care value care2 value2 apart small))
    ]

pub product_some : (care value care2 value2 : ℕ) → IsWithin care value → IsWithin care2 value2
    → contradictions care value care2 value2 ≡ 0
    → product (literals_of care value) (literals_of care2 value2)
    ≡ Some (literals_of (bit_or care care2) (bit_or value value2))
unfolding literals_of
product_some care value care2 value2 within within2 none =
    let apart : meet_from care value care2 value2 code_width 0 ≡ false =
    none_meet care value care2 value2 code_width 0
    (λ k. sym (bit_meets care value care2 value2 k) ∙ ap (λ (n : ℕ). bit n k) none ∙ bit-zero k) in
    joined care value care2 value2 within within2 code_width 0 ∙ rw apart refl

pub within_both : (care value care2 value2 : ℕ) → IsWithin care value → IsWithin care2 value2
    → IsWithin (bit_or care care2) (bit_or value value2)
within_both care value care2 value2 within within2 i there =
    bit-or care care2 i ∙ by_bits (bit care i) (bit care2 i) (bit value i) (bit value2 i) (within i) (within2 i)
    (sym (bit-or value value2 i) ∙ there)
  where
    by_bits : (a b v w : Bool) → (v ≡ true → a ≡ true) → (w ≡ true → b ≡ true) → (v || w) ≡ true
        → (a || b) ≡ true
    by_bits true b v w one other some = refl
    by_bits false b true w one other some = absurd (true≢false (sym (one refl)))
    by_bits false b false w one other some = other some

-- ---- one literal
one_from : (n i s value : ℕ) → i ≤ s → s < i + n
    → literals_from n i (2 ^ s) value ≡ literal s (bit value s) ∷ []
one_from zero i s value low high = absurd (omega arith)
one_from (suc n) i s value low high = elim (cases_eq i s) [
  | inl same ↦ rw (same, bit_here, literals_from-none n (s + 1) (2 ^ s) value (λ k above. bit_there k (omega arith)))
      refl
  | inr other ↦ rw (bit_there i other) (one_from n (i + 1) s value (omega arith) (omega arith))
]
  where
    bit_here : bit (2 ^ s) s ≡ true
    bit_here = ap (λ (b : ℕ). b == 1) (bit_at-pow_same s)

    bit_there : (k : ℕ) → k ≢ s → bit (2 ^ s) k ≡ false
    bit_there k other = ap (λ (b : ℕ). b == 1) (bit_at-pow_other s k other)

pub plain_cube : (s : ℕ) → s < code_width → literals_of (2 ^ s) (2 ^ s) ≡ literal s true ∷ []
unfolding literals_of
plain_cube s small = one_from code_width 0 s (2 ^ s) (omega arith) (omega arith)
    ∙ ap (λ (b : ℕ). literal s (b == 1) ∷ []) (bit_at-pow_same s)

pub complemented_cube : (s : ℕ) → s < code_width → literals_of (2 ^ s) 0 ≡ literal s false ∷ []
unfolding literals_of
complemented_cube s small = one_from code_width 0 s 0 (omega arith) (omega arith)
    ∙ ap (λ (b : Bool). literal s b ∷ []) (bit-zero s)
