-- The literals of a cube that is kept as two codes.
use Rattle.std.proofs.Common.{◌≡◌, ◌≢◌, ℕ, ◌<◌, ◌≤◌, ◌==◌, ◌&&◌, ◌+◌, ◌-◌, ◌*◌, ◌%◌, ◌^◌, bit_and, bit_xor, not, All}
use Rattle.std.proofs.Common.{Bool, true, false, List, [], ◌∷◌, filter, zero, suc, if◌then◌else◌, nat_lt, refl, sym, ap}
use Rattle.std.proofs.Common.{◌∙◌, arith, inl, inr}
use Rattle.std.specs.List.{list_all}
use Rattle.std.specs.Int.{w128, bit_at, bit_not}
use Rattle.std.specs.Int.Bits.{xor_lt}
use mir.Val.{bits}
use Rattle.std.proofs.lemmas.Bool.{true≢false, and_from, and_parts}
use Rattle.std.proofs.lemmas.Nat.Bits.{bit_at_xor, bit_at_not, bit_at_ones, bit_at_ones_above, bit_at-lt}
use Rattle.std.proofs.lemmas.Nat.Bits.{bit_at-pow_same, bit_at-pow_other, bit_at_above}
use Rattle.std.proofs.lemmas.Nat.{one_shl}
use Rattle.std.proofs.lemmas.Bool.{eq-eqb, eqb-true}
use Rattle.std.proofs.lemmas.Bool.Decides.{eqb_tells, leb_tells}
use Rattle.std.proofs.Math.Pow.{pow-lt}
use Rattle.std.proofs.Math.Bool.{and-true}
use Rattle.std.proofs.lemmas.List.Elements.{All-nil, All-cons}
use Rattle.std.proofs.lemmas.List.Kept.{AllPairs-cons}
use mathlib.Core.Bool.{beq}
use Rattle.si_base.specs.declared.ids.Literal.{Literal}
use Rattle.si_base.specs.Bits.{bit, ones}
use Rattle.si_base.specs.Netlist.{literal_value}
use Rattle.si_base.proofs.BitFacts.{same_codes, below_two, bit-and}
use Rattle.si_base.proofs.GraphSteps.{beq-refl, beq-true}
use Rattle.si_base.specs.Limits.{code_width}
use Rattle.si_base.proofs.Booleans.{same_if, beq_swap}
use Rattle.si_cube.specs.Literals.{literals_from, literals_of, IsWithin, full_literals, InSignalOrder}

-- ---- bits

pub bit-xor : (a b i : ℕ) → bit (bit_xor a b) i ≡ not (beq (bit a i) (bit b i))
bit-xor a b i =
    elim (below_two (bit_at a i) (bit_at-lt a i)) [
      | inl a0 ↦ elim (below_two (bit_at b i) (bit_at-lt b i))
          [ inl b0 ↦ rw (bit_at_xor, a0, b0) refl | inr b1 ↦ rw (bit_at_xor, a0, b1) refl ]
      | inr a1 ↦ elim (below_two (bit_at b i) (bit_at-lt b i))
          [ inl b0 ↦ rw (bit_at_xor, a1, b0) refl | inr b1 ↦ rw (bit_at_xor, a1, b1) refl ]
    ]

pub bit-agree : (a b i : ℕ) → a < 2 ^ code_width → b < 2 ^ code_width → i < code_width
    → bit (bit_not w128 (bit_xor a b)) i ≡ beq (bit a i) (bit b i)
bit-agree a b i la lb li =
    let small : bit_xor a b < 2 ^ code_width = xor_lt code_width a b la lb in
    elim (below_two (bit_at a i) (bit_at-lt a i)) [
      | inl a0 ↦ elim (below_two (bit_at b i) (bit_at-lt b i)) [
        | inl b0 ↦ rw (bit_at_not w128 (bit_xor a b) i small li, bit_at_xor, a0, b0) refl
        | inr
            b1 ↦ rw (bit_at_not w128 (bit_xor a b) i small li, bit_at_xor, a0, b1) refl
      ]
      | inr a1 ↦ elim (below_two (bit_at b i) (bit_at-lt b i)) [
        | inl b0 ↦ rw (bit_at_not w128 (bit_xor a b) i small li, bit_at_xor, a1, b0) refl
        | inr
            b1 ↦ rw (bit_at_not w128 (bit_xor a b) i small li, bit_at_xor, a1, b1) refl
      ]
    ]

-- all bits but the s-th
pub bit-others : (s i : ℕ) → s < code_width → i < code_width → bit (bit_not w128 (1 * 2 ^ s % 2 ^ bits w128)) i
    ≡ not (i == s)
bit-others s i ls li =
    let small : 2 ^ s < 2 ^ code_width = pow-lt ls in
    rw (one_shl s code_width ls) (elim (eqb_tells i s) [
      | inl same ↦ rw (bit_at_not w128 (2 ^ s) i small li, same.0, same.1, bit_at-pow_same s) refl
      | inr other ↦ rw (bit_at_not w128 (2 ^ s) i small li, other.0, bit_at-pow_other s i other.1) refl
    ])

pub bit-ones : (n i : ℕ) → bit (2 ^ n - 1) i ≡ nat_lt i n
bit-ones n i =
    elim (leb_tells (suc i) n) [
      | inl below ↦ rw (below.0, bit_at_ones n i below.1) refl
      | inr above ↦ rw (above.0, bit_at_ones_above n i (omega arith)) refl
    ]

-- ---- lists of literals

kept_step : (kept : Literal → Bool) (is_there is_kept is_left : Bool) (l m : Literal) (rest left : List Literal)
    → kept l ≡ is_kept → is_left ≡ (is_there && is_kept) → (is_left ≡ true → m ≡ l) → left ≡ filter kept rest
    → (if is_left then m ∷ left else left) ≡ filter kept (if is_there then l ∷ rest else rest)
kept_step kept true true is_left l m rest left k e same h = rw (e, k, same e, h) refl
kept_step kept true false is_left l m rest left k e same h = rw (e, k, h) refl
kept_step kept false is_kept is_left l m rest left k e same h = rw (e, h) refl

pub literals_from-filter : (kept : Literal → Bool) (n i care value other_care other_value : ℕ)
    → ((k : ℕ) → i ≤ k → k < i + n → bit other_care k ≡ (bit care k && kept (record { sig = k; plain = bit value k })))
    → ((k : ℕ) → bit other_care k ≡ true → bit other_value k ≡ bit value k)
    → literals_from n i other_care other_value ≡ filter kept (literals_from n i care value)
literals_from-filter kept zero i care value other_care other_value cares values = refl
literals_from-filter kept (suc n) i care value other_care other_value cares values =
    kept_step kept (bit care i) (kept (record { sig = i; plain = bit value i })) (bit other_care i)
    (record { sig = i; plain = bit value i }) (record { sig = i; plain = bit other_value i })
    (literals_from n (i + 1) care value) (literals_from n (i + 1) other_care other_value)
    refl (cares i (omega arith) (omega arith))
    (λ there. ap (λ (b : Bool). record { sig = i; plain = b }) (values i there))
    (literals_from-filter kept n (i + 1) care value other_care other_value
    (λ k low high. cares k (omega arith) (omega arith)) values)

hold_parts : (p : Literal → Bool) (is_there : Bool) (l : Literal) (rest : List Literal)
    → list_all p (if is_there then l ∷ rest else rest) ≡ true
    → (is_there ≡ true → p l ≡ true) × (list_all p rest ≡ true)
hold_parts p true l rest h = let parts = and_parts (p l) (list_all p rest) h in (λ there. parts.0, parts.1)
hold_parts p false l rest h = (λ there. absurd (true≢false (sym there)), h)

hold_all : (p : Literal → Bool) (is_there : Bool) (l : Literal) (rest : List Literal) → (is_there ≡ true → p l ≡ true)
    → list_all p rest ≡ true
    → list_all p (if is_there then l ∷ rest else rest) ≡ true
hold_all p true l rest here later = rw (here refl, later) refl
hold_all p false l rest here later = later

-- where all literals are true, the code has the value of each signal that has one
pub values_from_literals : (n i care value code : ℕ) → list_all (literal_value code) (literals_from n i care value)
    ≡ true
    → (k : ℕ) → i ≤ k → k < i + n → bit care k ≡ true → bit code k ≡ bit value k
values_from_literals zero i care value code h k low high there = absurd (omega arith)
values_from_literals (suc n) i care value code h k low high there =
    let parts = hold_parts (literal_value code) (bit care i) (record { sig = i; plain = bit value i })
    (literals_from n (i + 1) care value) h in
    elim (eqb_tells k i) [
      | inl same ↦ let at_i : bit care i ≡ true = rw same.1 at there in
          rw same.1 (beq-true (bit code i) (bit value i) (parts.0 at_i))
      | inr other ↦ let not_i : k ≢ i = other.1 in
          values_from_literals n (i + 1) care value code parts.1 k (omega arith) (omega arith) there
    ]

pub literals_from_values : (n i care value code : ℕ) → ((k : ℕ) → bit care k ≡ true → bit code k ≡ bit value k)
    → list_all (literal_value code) (literals_from n i care value) ≡ true
literals_from_values zero i care value code h = refl
literals_from_values (suc n) i care value code h =
    hold_all (literal_value code) (bit care i) (record { sig = i; plain = bit value i })
    (literals_from n (i + 1) care value)
    (λ there. rw (h i there) (beq-refl (bit value i)))
    (literals_from_values n (i + 1) care value code h)

masked_bit : (is_there is_one value_one : Bool) → (value_one ≡ true → is_there ≡ true)
    → (is_there ≡ true → is_one ≡ value_one) → (is_one && is_there) ≡ value_one
masked_bit true true value_one within same = same refl
masked_bit true false value_one within same = same refl
masked_bit false true true within same = within refl
masked_bit false true false within same = refl
masked_bit false false true within same = within refl
masked_bit false false false within same = refl

pub below_width : (care k : ℕ) → care < 2 ^ code_width → bit care k ≡ true → k < code_width
below_width care k small there =
    elim (leb_tells code_width k) [
      | inl above ↦ absurd (true≢false (sym (rw (bit_at_above care code_width k small above.1) at there)))
      | inr below ↦ below.1
    ]

unmasked : {is_there value_one : Bool} (is_one : Bool) → (is_one && is_there) ≡ value_one → is_there ≡ true
    → is_one ≡ value_one
unmasked true h there = sym there ∙ h
unmasked false h there = h

pub covers_is : (care value code : ℕ) → care < 2 ^ code_width → IsWithin care value
    → (bit_and code care == value) ≡ list_all (literal_value code) (literals_of care value)
unfolding literals_of
covers_is care value code small within =
    same_if _ _
    (λ same. literals_from_values code_width 0 care value code (λ k there.
    let all : bit (bit_and code care) k ≡ bit value k =
    ap (λ (n : ℕ). bit n k) (eqb-true (bit_and code care) value same) in
    unmasked (bit code k) (sym (bit-and code care k) ∙ all) there))
    (λ hold. eq-eqb _ _ (same_codes (bit_and code care) value
    (λ k. rw bit-and (masked_bit (bit care k) (bit code k) (bit value k) (within k)
    (λ there. values_from_literals code_width 0 care value code hold k (omega arith) (below_width care k small there)
    there)))))

-- ---- the cubes that calls make

both_true : (a b : Bool) → a ≡ true → b ≡ true → beq a b ≡ true
both_true a b ha hb = rw (ha, hb) refl

pub and_same : (a b : Bool) → a ≡ b → (a && b) ≡ a
and_same true b same = sym same
and_same false b same = refl

is_below : (i n : ℕ) → i < n → nat_lt i n ≡ true
is_below i n below = elim (leb_tells (suc i) n) [ inl yes_below ↦ yes_below.0 | inr above ↦ absurd (omega arith) ]

not_below : (i n : ℕ) → n ≤ i → nat_lt i n ≡ false
not_below i n above = elim (leb_tells (suc i) n) [ inl below ↦ absurd (omega arith) | inr is_above ↦ is_above.0 ]

pub supercube_is : (care value code : ℕ) → care < 2 ^ code_width → value < 2 ^ code_width → code < 2 ^ code_width
    → literals_of (bit_and care (bit_not w128 (bit_xor value code))) (bit_and value code)
    ≡ filter (literal_value code) (literals_of care value)
unfolding literals_of
supercube_is care value code small_care small_value small_code =
    literals_from-filter (literal_value code) code_width 0 care value (bit_and care (bit_not w128 (bit_xor value code)))
    (bit_and value code)
    (λ k low high. rw bit-and (ap (λ (b : Bool). bit care k && b)
    (bit-agree value code k small_value small_code (omega arith) ∙ beq_swap (bit value k) (bit code k))))
    (λ k there.
    let parts = and_parts (bit care k) (bit (bit_not w128 (bit_xor value code)) k)
    (sym (bit-and care (bit_not w128 (bit_xor value code)) k) ∙ there) in
    let agree : beq (bit value k) (bit code k) ≡ true =
    sym (bit-agree value code k small_value small_code (below_width care k small_care parts.0)) ∙ parts.1 in
    bit-and value code k ∙ and_same (bit value k) (bit code k) (beq-true (bit value k) (bit code k) agree))

pub within-supercube : (care value code : ℕ) → value < 2 ^ code_width → code < 2 ^ code_width → IsWithin care value
    → IsWithin (bit_and care (bit_not w128 (bit_xor value code))) (bit_and value code)
within-supercube care value code small_value small_code within i there =
    let parts = and_parts (bit value i) (bit code i) (sym (bit-and value code i) ∙ there) in
    bit-and care (bit_not w128 (bit_xor value code)) i
    ∙ and_from _ _ (within i parts.0)
    (bit-agree value code i small_value small_code (below_width value i small_value parts.0)
    ∙ both_true (bit value i) (bit code i) parts.0 parts.1)

pub drop_is : (care value s : ℕ) → s < code_width
    → literals_of (bit_and care (bit_not w128 (1 * 2 ^ s % 2 ^ bits w128)))
    (bit_and value (bit_not w128 (1 * 2 ^ s % 2 ^ bits w128))) ≡ filter (λ l. not (l.sig == s)) (literals_of care value)
unfolding literals_of
drop_is care value s small =
    let others : ℕ = bit_not w128 (1 * 2 ^ s % 2 ^ bits w128) in
    literals_from-filter (λ l. not (l.sig == s)) code_width 0 care value (bit_and care others) (bit_and value others)
    (λ k low high. rw bit-and (ap (λ (b : Bool). bit care k && b) (bit-others s k small (omega arith))))
    (λ k there.
    let parts = and_parts (bit care k) (bit others k) (sym (bit-and care others k) ∙ there) in
    bit-and value others k ∙ ap (λ (b : Bool). bit value k && b) parts.1 ∙ and-true (bit value k))

pub within-and : (care value mask : ℕ) → IsWithin care value → IsWithin (bit_and care mask) (bit_and value mask)
within-and care value mask within i there =
    let parts = and_parts (bit value i) (bit mask i) (sym (bit-and value mask i) ∙ there) in
    bit-and care mask i ∙ and_from _ _ (within i parts.0) parts.1

pub literals_from-none : (count i care value : ℕ) → ((k : ℕ) → i ≤ k → bit care k ≡ false)
    → literals_from count i care value ≡ []
literals_from-none zero i care value none = refl
literals_from-none (suc count) i care value none =
    rw (none i (omega arith)) (literals_from-none count (i + 1) care value (λ k low. none k (omega arith)))

literal_step : (is_there : Bool) (l m : Literal) (rest others : List Literal) → is_there ≡ true → l ≡ m → rest ≡ others
    → (if is_there then l ∷ rest else rest) ≡ m ∷ others
literal_step is_there l m rest others there same h = rw (there, same, h) refl

full_from_ones : (left count i n code : ℕ) → n ≡ i + left → left ≤ count
    → literals_from count i (2 ^ n - 1) (bit_and code (2 ^ n - 1)) ≡ full_literals left i code
full_from_ones zero count i n code ends fits =
    literals_from-none count i (2 ^ n - 1) (bit_and code (2 ^ n - 1))
    (λ k low. bit-ones n k ∙ not_below k n (omega arith))
full_from_ones (suc left) zero i n code ends fits = absurd (omega arith)
full_from_ones (suc left) (suc count) i n code ends fits =
    let there : bit (2 ^ n - 1) i ≡ true = bit-ones n i ∙ is_below i n (omega arith) in
    literal_step (bit (2 ^ n - 1) i) (record { sig = i; plain = bit (bit_and code (2 ^ n - 1)) i })
    (record { sig = i; plain = bit code i })
    (literals_from count (i + 1) (2 ^ n - 1) (bit_and code (2 ^ n - 1))) (full_literals left (i + 1) code)
    there
    (ap (λ (b : Bool). record { sig = i; plain = b })
    (bit-and code (2 ^ n - 1) i ∙ ap (λ (b : Bool). bit code i && b) there ∙ and-true (bit code i)))
    (full_from_ones left count (i + 1) n code (omega arith) (omega arith))

pub of_code_is : (n code : ℕ) → n ≤ code_width → literals_of (ones n) (bit_and code (ones n)) ≡ full_literals n 0 code
unfolding literals_of
of_code_is n code small = full_from_ones n code_width 0 n code (omega arith) small

pub within-mask : (code care : ℕ) → IsWithin care (bit_and code care)
within-mask code care i there = (and_parts (bit code i) (bit care i) (sym (bit-and code care i) ∙ there)).1

pub from_on : (n i care value : ℕ) → All (λ (l : Literal). i ≤ l.sig) (literals_from n i care value)
from_on zero i care value = All-nil (λ (l : Literal). i ≤ l.sig)
from_on (suc n) i care value = by_bit (bit care i) (λ k d inside. (let above = from_on n
    (i + 1) care value k d inside in omega (arith, above)))
  where
    by_bit : (b : Bool) → All (λ (l : Literal). i ≤ l.sig) (literals_from n (i + 1) care value)
        → All (λ (l : Literal). i ≤ l.sig) (if b then record { sig = i; plain = bit value i } ∷ literals_from n
        (i + 1) care value else literals_from n (i + 1) care value)
    by_bit true later = All-cons (λ (l : Literal). i ≤ l.sig) _ _ (omega arith) later
    by_bit false later = later

rising_from : (n i care value : ℕ) → InSignalOrder (literals_from n i care value)
rising_from zero i care value = λ j k d order within. absurd (omega arith)
rising_from (suc n) i care value = by_bit (bit care i) (λ k d inside. (let above = from_on n
    (i + 1) care value k d inside in omega (arith, above))) (rising_from n (i + 1) care value)
  where
    by_bit : (b : Bool) → All (λ (l : Literal). i < l.sig) (literals_from n (i + 1) care value)
        → InSignalOrder (literals_from n (i + 1) care value)
        → InSignalOrder (if b then record { sig = i; plain = bit value i } ∷ literals_from n
        (i + 1) care value else literals_from n (i + 1) care value)
    by_bit true above later = AllPairs-cons (λ (k l : Literal). k.sig < l.sig)
        (record { sig = i; plain = bit value i }) _ above later
    by_bit false above later = later

pub rising_of : (care value : ℕ) → InSignalOrder (literals_of care value)
unfolding literals_of
rising_of care value = rising_from code_width 0 care value
