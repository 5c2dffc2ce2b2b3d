-- A cell of which some of the first pins have literals, at all codes of the places at once.
use Rattle.std.proofs.Common.{◌≡◌, ℕ, zero, suc, ◌⊎◌, ◌+◌, ◌*◌, ◌%◌, ◌<◌, ◌≤◌, ◌==◌, ◌^◌, Bool, true, false}
use Rattle.std.proofs.Common.{List, [], ◌∷◌, ◌++◌, length, map, get_or, if◌then◌else◌, bit_and, bit_xor}
use Rattle.std.proofs.Common.{refl, sym, ap, ◌∙◌, arith, inl, inr, ◌&&◌, not}
use Rattle.std.specs.Int.{bit_at, bit_not, w32}
use Rattle.std.specs.List.{range_with_len}
use Rattle.std.proofs.Math.ListN.{get_or-append}
use Rattle.std.proofs.Math.Seq.{get_or-append_seam}
use Rattle.std.proofs.lemmas.Bool.Decides.{eqb_tells}
use Rattle.std.proofs.Math.ListN.{get_or-eq_default}
use Rattle.std.proofs.lemmas.List.{length-append}
use Rattle.std.proofs.lemmas.List.FromFn.{get_or-map-range_with_len, length-map-range_with_len}
use Rattle.std.proofs.lemmas.Nat.Bits.{bit_at-lt, bit_at_not, bit_at_above}
use mathlib.Core.Bool.{beq}
use Rattle.si_base.proofs.BitFacts.{below_two, same_codes, bit-and}
use Rattle.si_base.specs.Bits.{bit}
use Rattle.si_base.specs.Netlist.{literal_value, sum_value}
use Rattle.si_base.specs.declared.ids.Literal.{Literal}
use Rattle.si_base.proofs.Booleans.{equals_true}
use Rattle.si_cell.specs.Library.{Cell, pin_values}
use Rattle.si_cell.specs.Limits.{max_pins, table_codes}
use Rattle.si_cell.proofs.ExpandedLemmas.{bit_of}
use Rattle.si_match.specs.Loops.Columns.{AreColumns, first_pin_values}
use Rattle.si_match.specs.Functions.{function_table, places, value_at}
use Rattle.si_match.proofs.FunctionLemmas.{table_bit}
use Rattle.si_match.proofs.PlaceLemmas.{bit_of_xor}

-- ---- the values of the first pins
one_pin_more : (ls : List Literal) (l : Literal) (m rest : ℕ) → first_pin_values (ls ++ l ∷ []) m rest
    ≡ first_pin_values ls m ((if literal_value m l then 1 else 0) + 2 * rest)
one_pin_more [] l m rest = refl
one_pin_more (x ∷ ls) l m rest = rw (one_pin_more ls l m rest) refl

all_pins : (ls : List Literal) (m : ℕ) (q : Bool) → first_pin_values ls m (if q then 1 else 0) ≡ pin_values ls m q
all_pins [] m true = refl
all_pins [] m false = refl
all_pins (x ∷ ls) m q = rw (all_pins ls m q) refl

-- ---- the columns of literals
abbrev pub place_columns : List ℕ
place_columns = 2863311530 ∷ 3435973836 ∷ 4042322160 ∷ 4278255360 ∷ 4294901760 ∷ []

pub same_at_codes : (f g : ℕ → Bool) → map f (range_with_len 0 table_codes) ≡ map g (range_with_len 0 table_codes)
    → (m : ℕ) → m < table_codes → f m ≡ g m
same_at_codes f g same m below =
    sym (get_or-map-range_with_len f 0 table_codes m m false below (omega arith))
    ∙ ap (λ (vs : List Bool). get_or vs m false) same
    ∙ get_or-map-range_with_len g 0 table_codes m m false below (omega arith)

pub place_column : (place m : ℕ) → place < places → m < table_codes
    → bit (get_or place_columns place 0) m ≡ bit m place
place_column zero m within below = same_at_codes (bit 2863311530) (λ k. bit k 0) refl m below
place_column (suc zero) m within below = same_at_codes (bit 3435973836) (λ k. bit k 1) refl m below
place_column (suc (suc zero)) m within below = same_at_codes (bit 4042322160) (λ k. bit k 2) refl m below
place_column (suc (suc (suc zero))) m within below = same_at_codes (bit 4278255360) (λ k. bit k 3) refl m below
place_column (suc (suc (suc (suc zero)))) m within below = same_at_codes (bit 4294901760) (λ k. bit k 4) refl m below
place_column (suc (suc (suc (suc (suc place))))) m within below = absurd (omega (arith, within))

-- the other value at each code
pub other_bit : (n m : ℕ) → n < 2 ^ 32 → m < table_codes → bit (bit_not w32 n) m ≡ beq (bit n m) false
other_bit n m small below = elim (below_two (bit_at n m) (bit_at-lt n m)) [
  | inl is0 ↦ rw (bit_at_not w32 n m small below, is0) refl
  | inr is1 ↦ rw (bit_at_not w32 n m small below, is1) refl
]

pub column_of_ones : (m : ℕ) → m < table_codes → bit 4294967295 m ≡ true
column_of_ones = same_at_codes (bit 4294967295) (λ k. true) refl

-- ---- how many columns there are
pub few_columns : (pins : ℕ) → pins ≤ max_pins → 2 ^ (pins + 1) ≤ table_codes
few_columns zero few = omega arith
few_columns (suc zero) few = omega arith
few_columns (suc (suc zero)) few = omega arith
few_columns (suc (suc (suc zero))) few = omega arith
few_columns (suc (suc (suc (suc zero)))) few = omega arith
few_columns (suc (suc (suc (suc (suc pins))))) few = absurd (omega (arith, few))

pub columns_in_byte : (pins : ℕ) → pins ≤ max_pins → 2 * 2 ^ pins % 2 ^ 8 ≡ 2 ^ (pins + 1)
columns_in_byte zero few = refl
columns_in_byte (suc zero) few = refl
columns_in_byte (suc (suc zero)) few = refl
columns_in_byte (suc (suc (suc zero))) few = refl
columns_in_byte (suc (suc (suc (suc zero)))) few = refl
columns_in_byte (suc (suc (suc (suc (suc pins))))) few = absurd (omega (arith, few))

-- ---- two columns merged by a literal's
pub merged_bit : (l u t m : ℕ) → bit (bit_xor u (bit_and l (bit_xor u t))) m ≡ (if bit l m then bit t m else bit u m)
merged_bit l u t m =
    bit_of_xor u (bit_and l (bit_xor u t)) m
    ∙ rw (bit-and l (bit_xor u t) m, bit_of_xor u t m) (by_values (bit u m) (bit l m) (bit t m))
  where
    by_values : (u l t : Bool) → (if u then not (l && (if u then not t else t)) else l && (if u then not t else t))
        ≡ (if l then t else u)
    by_values true true true = refl
    by_values true true false = refl
    by_values true false t = refl
    by_values false true t = refl
    by_values false false t = refl

-- ---- columns, one after the other
module _ (cell : Cell) (ls : List Literal) (columns : List ℕ) (are : AreColumns cell ls columns) where
  pub one_column_more : (x count : ℕ) (now : List ℕ) → length columns ≡ count → now ≡ columns ++ x ∷ []
      → ((m : ℕ) → m < table_codes → bit x m ≡ sum_value (first_pin_values ls m count) cell.sum)
      → AreColumns cell ls now
  one_column_more x count now counted now_is is rest m within below = elim (eqb_tells rest (length columns)) [
    | inl last ↦ rw (now_is, last.1, get_or-append_seam columns x [] 0, counted) (is m below)
    | inr other ↦ (
        let not_last = other.1 in
        let more : length now ≡ length columns + 1 = ap length now_is ∙ length-append columns (x ∷ []) in
        let before : rest < length columns = omega (arith, within, more, not_last) in
        rw (now_is, get_or-append columns (x ∷ []) 0 rest before) (are rest m before below)
        )
  ]

  -- of two columns that differ at the next pin alone, the one that the value at that pin tells
  of_next_pin : (v : Bool) (rest m : ℕ) → 2 * rest + 1 < length columns → m < table_codes
      → (if v then bit (get_or columns (2 * rest + 1) 0) m else bit (get_or columns (2 * rest) 0) m)
      ≡ sum_value (first_pin_values ls m ((if v then 1 else 0) + 2 * rest)) cell.sum
  of_next_pin true rest m within below =
      let e : 2 * rest + 1 ≡ 1 + 2 * rest = omega arith in
      rw (sym e) (are (2 * rest + 1) m within below)
  of_next_pin false rest m within below =
      let e : 2 * rest ≡ 0 + 2 * rest = omega arith in
      rw (sym e) (are (2 * rest) m (omega (arith, within)) below)

  pub with_next_pin : (l : Literal) (rest m column x : ℕ) → 2 * rest + 1 < length columns → m < table_codes
      → bit column m ≡ literal_value m l
      → bit x m ≡ (if bit column m then bit (get_or columns (2 * rest + 1) 0) m
      else bit (get_or columns (2 * rest) 0) m)
      → bit x m ≡ sum_value (first_pin_values (ls ++ l ∷ []) m rest) cell.sum
  with_next_pin l rest m column x within below told is =
      is ∙ rw told (of_next_pin (literal_value m l) rest m within below)
      ∙ ap (λ (k : ℕ). sum_value k cell.sum) (sym (one_pin_more ls l m rest))

  -- ---- where each pin has a literal
  module _ (two : length columns ≡ 2) (own table : ℕ) (small : table < 2 ^ 32)
      (own_is : (m : ℕ) → m < table_codes → bit own m ≡ literal_value m (record { sig = 0; plain = true }))
      (is : (m : ℕ) → bit table m
      ≡ (if bit own m then bit (get_or columns 1 0) m else bit (get_or columns 0 0) m)) where
    own_value : (m : ℕ) → m < table_codes → bit own m ≡ bit m 0
    own_value m below = own_is m below ∙ sym (equals_true (bit m 0))

    by_own : (q : Bool) (m : ℕ) → m < table_codes
        → (if q then bit (get_or columns 1 0) m else bit (get_or columns 0 0) m)
        ≡ sum_value (first_pin_values ls m (if q then 1 else 0)) cell.sum
    by_own true m below = are 1 m (omega (arith, two)) below
    by_own false m below = are 0 m (omega (arith, two)) below

    bit_below : (m : ℕ) → m < table_codes → bit table m ≡ value_at cell ls m
    bit_below m below =
        is m ∙ rw (own_value m below) (by_own (bit m 0) m below)
        ∙ ap (λ (k : ℕ). sum_value k cell.sum) (all_pins ls m (bit m 0))

    bit_above : (m : ℕ) → table_codes ≤ m → bit table m ≡ bit (function_table cell ls) m
    bit_above m above =
        let values = map (value_at cell ls) (range_with_len 0 table_codes) in
        let count : length values ≤ m = rw length-map-range_with_len above in
        ap (λ (b : ℕ). b == 1) (bit_at_above table 32 m small above)
        ∙ sym (bit_of values m ∙ get_or-eq_default values false count)

    pub is_function_table : table ≡ function_table cell ls
    is_function_table = same_codes table (function_table cell ls) (λ m. elim (two_ways m) [
      | inl below ↦ bit_below m below ∙ sym (table_bit cell ls m below)
      | inr above ↦ bit_above m above
    ])
      where
        two_ways : (m : ℕ) → (m < table_codes) ⊎ (table_codes ≤ m)
        two_ways m = grind arith
