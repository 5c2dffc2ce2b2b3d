-- Sets of states whose flags stand 64 to a word.
use Rattle.std.proofs.Common.{◌≡◌, ℕ, zero, suc, mod-lt, ◌↔◌, IsTrue, ◌+◌, ◌*◌, ◌/◌, ◌%◌, ◌^◌, ◌<◌, ◌≤◌, ◌==◌, Bool}
use Rattle.std.proofs.Common.{true, false, cond, ◌||◌, ◌&&◌, ◌-◌, refl, sym, ap, ◌∙◌, arith, inl, inr, List}
use Rattle.std.proofs.Common.{length, map, get_or, set, replicate, count_by, count_ones, bit_or, bit_and}
use Rattle.std.specs.List.{range_with_len}
use Rattle.std.specs.Int.{bit_at, w64}
use Rattle.std.specs.Int.Count.{count_trailing_zeros}
use Rattle.std.proofs.lemmas.Bool.{cases_eq, cases_lt, true≢false, or_left, or_right, or_cases, and_from}
use Rattle.std.proofs.lemmas.List.{get_or_past, get_or-set_same, get_or-set_other, get_or-replicate, length-set}
use Rattle.std.proofs.lemmas.List.{length-replicate}
use Rattle.std.proofs.lemmas.List.FromFn.{length-map-range_with_len, get_or-map-range_with_len, fill_by_all}
use Rattle.std.proofs.lemmas.List.FromFn.{sum_by-map-range_with_len_more}
use Rattle.std.proofs.lemmas.List.Sums.{count_by-le-length}
use Rattle.std.proofs.lemmas.Nat.{pow_pos, shr-shr, shr_le, mod-pow-add, ones_cat, or_lt, and_le_l}
use Rattle.std.proofs.lemmas.Nat.Bits.{bit_at-lt, bit_at_above}
use Rattle.std.proofs.lemmas.Nat.Bits.{bit_at-trailing_zeros, shr_and_one, bit_at_set_same, bit_at_set_other}
use Rattle.std.proofs.lemmas.Nat.Bits.{bit_at_clear_same, bit_at_clear_other}
use Rattle.si_base.specs.Bits.{bit}
use Rattle.si_base.specs.Sets.{flag, flags_of, HasNoFlagFrom, HasNoneFrom, IsFirstFlag, IsFirstFrom, AreWithin}
use Rattle.si_base.specs.Sets.{AreApart, IsSubset, IsUnion, IsDisjoint}
use Rattle.si_base.proofs.BitFacts.{below_two, same_codes, bit-zero, bit-or, bit-and}

-- ---- the list of the flags

pub flag_count : (n : ℕ) (words : List ℕ) → length (flags_of n words) ≡ n
flag_count n words = length-map-range_with_len (flag words) 0 n

pub flag_read : (n : ℕ) (words : List ℕ) (s : ℕ) → s < n → get_or (flags_of n words) s false ≡ flag words s
flag_read n words s within = get_or-map-range_with_len (flag words) 0 n s s false within (omega arith)

pub flags_by : (n : ℕ) (words : List ℕ) (flags : List Bool) → length flags ≡ n
    → ((s : ℕ) → s < n → get_or flags s false ≡ flag words s) → flags_of n words ≡ flags
flags_by n words flags size each = sym (fill_by_all (flag words) flags n false size each)

-- also past the last state
pub flag_told : (n : ℕ) (words : List ℕ) (s : ℕ) → HasNoFlagFrom words n
    → get_or (flags_of n words) s false ≡ flag words s
flag_told n words s no_more = elim (cases_lt s n) [
  | inl within ↦ flag_read n words s within
  | inr past ↦
      let outside : length (flags_of n words) ≤ s = omega (arith, flag_count n words, past) in
      get_or_past (flags_of n words) s false outside ∙ sym (no_more s past)
]

pub word_within : (n s count : ℕ) → count ≡ (n + 63) / 64 → s < n → s / 64 < count
word_within n s count size within = omega arith

-- ---- no flags

abbrev no_words : ℕ → List ℕ
no_words count = replicate count 0

get_zero : (count k : ℕ) → get_or (no_words count) k 0 ≡ 0
get_zero count k =
    let size : length (no_words count) ≡ count = length-replicate count 0 in
    elim (cases_lt k count) [
      | inl within ↦ get_or-replicate count k 0 0 within
      | inr past ↦ get_or_past (no_words count) k 0 (omega (arith, size, past))
    ]

pub no_flags : (count s : ℕ) → flag (no_words count) s ≡ false
no_flags count s = ap (λ w. bit w (s % 64)) (get_zero count (s / 64)) ∙ bit-zero (s % 64)

pub empty_flags : (n count : ℕ) → flags_of n (no_words count) ≡ replicate n false
empty_flags n count = flags_by n (no_words count) (replicate n false) (length-replicate n false)
    (λ s within. get_or-replicate n s false false within ∙ sym (no_flags count s))

-- ---- one flag written

-- the flag of s has the value v, and the others are as before
pub record IsWritten (old : List ℕ) (s : ℕ) (v : Bool) (new : List ℕ) : Type 0 where
  pub there : flag new s ≡ v
  pub others : (k : ℕ) → (k ≡ s → ⊥) → flag new k ≡ flag old k

pub flag_written : (old : List ℕ) (s w : ℕ) (v : Bool) → s / 64 < length old → bit w (s % 64) ≡ v
    → ((i : ℕ) → i < 64 → (i ≡ s % 64 → ⊥) → bit w i ≡ bit (get_or old (s / 64) 0) i)
    → IsWritten old s v (set old (s / 64) w)
flag_written old s w v within is other = record {
  there = ap (λ x. bit x (s % 64)) (get_or-set_same old (s / 64) w 0 within) ∙ is;
  others = λ k apart. elim (cases_eq (k / 64) (s / 64)) [
    | inl same ↦
        let here : get_or (set old (s / 64) w) (k / 64) 0 ≡ w =
        ap (λ j. get_or (set old (s / 64) w) j 0) same ∙ get_or-set_same old (s / 64) w 0 within in
        let differ : k % 64 ≡ s % 64 → ⊥ = λ e. apart (omega (arith, same, e)) in
        ap (λ x. bit x (k % 64)) here ∙ other (k % 64) (omega arith) differ
        ∙ ap (λ j. bit (get_or old j 0) (k % 64)) (sym same)
    | inr elsewhere ↦
        ap (λ x. bit x (k % 64)) (get_or-set_other old (s / 64) (k / 64) w 0 elsewhere)
  ];
}

pub flags_written : (n s : ℕ) (v : Bool) (old new : List ℕ) → s < n → IsWritten old s v new
    → flags_of n new ≡ set (flags_of n old) s v
flags_written n s v old new within is =
    let inside : s < length (flags_of n old) = omega (arith, flag_count n old, within) in
    flags_by n new (set (flags_of n old) s v) (length-set (flags_of n old) s v ∙ flag_count n old)
    (λ k small. elim (cases_eq k s) [
      | inl same ↦ ap (λ j. get_or (set (flags_of n old) s v) j false) same
          ∙ get_or-set_same (flags_of n old) s v false inside ∙ sym is.there ∙ ap (flag new) (sym same)
      | inr apart ↦ get_or-set_other (flags_of n old) s k v false apart ∙ flag_read n old k small
          ∙ sym (is.others k apart)
    ])

pub none_after_write : (n s : ℕ) (v : Bool) (old new : List ℕ) → s < n → IsWritten old s v new
    → HasNoFlagFrom old n → HasNoFlagFrom new n
none_after_write n s v old new within is none k past =
    is.others k (λ e. absurd (omega (arith, e, within, past))) ∙ none k past

pub test_told : (words : List ℕ) (s w : ℕ) → w ≡ get_or words (s / 64) 0
    → (bit_and (w / 2 ^ (s % 64)) 1 == 1) ≡ flag words s
test_told words s w is = ap (λ b. b == 1) (shr_and_one w (s % 64)) ∙ ap (λ x. bit x (s % 64)) is

pub set_written : (words : List ℕ) (s w : ℕ) → s / 64 < length words → w ≡ get_or words (s / 64) 0
    → IsWritten words s true (set words (s / 64) (bit_or w (1 * 2 ^ (s % 64) % 2 ^ 64)))
set_written words s w within is =
    let low : s % 64 < 64 = omega arith in
    flag_written words s _ true within (ap (λ b. b == 1) (bit_at_set_same w64 w (s % 64) low))
    (λ i small apart. ap (λ b. b == 1) (bit_at_set_other w64 w (s % 64) low i apart) ∙ ap (λ x. bit x i) is)

pub clear_written : (words : List ℕ) (s w : ℕ) → s / 64 < length words → w ≡ get_or words (s / 64) 0
    → IsWritten words s false (set words (s / 64) (bit_and w (2 ^ 64 - 1 - 1 * 2 ^ (s % 64) % 2 ^ 64)))
clear_written words s w within is =
    let low : s % 64 < 64 = omega arith in
    flag_written words s _ false within (ap (λ b. b == 1) (bit_at_clear_same w64 w (s % 64) low))
    (λ i small apart. ap (λ b. b == 1) (bit_at_clear_other w64 w (s % 64) low i small apart) ∙ ap (λ x. bit x i) is)

-- the same, of a set that contracts see as a list of flags
pub state_within : (n s t : ℕ) (words : List ℕ) (flags : List Bool) → flags_of n words ≡ flags → s ≡ t
    → t < length flags → s < n
state_within n s t words flags view same within = omega (arith, flag_count n words, ap length view, same, within)

pub set_seen : (n s t : ℕ) (v : Bool) (old new : List ℕ) (flags : List Bool) → flags_of n old ≡ flags → s ≡ t
    → s < n → IsWritten old s v new → flags_of n new ≡ set flags t v
set_seen n s t v old new flags view same within is =
    flags_written n s v old new within is ∙ ap (λ l. set l s v) view ∙ ap (λ j. set flags j v) same

-- ---- words of both sets

-- each word has the bits of both
abbrev pub AreUnited : List ℕ → List ℕ → List ℕ → Type 0
AreUnited words others both = (k : ℕ) → get_or both k 0 ≡ bit_or (get_or words k 0) (get_or others k 0)

united_flag : (words others both : List ℕ) → AreUnited words others both → (s : ℕ)
    → flag both s ≡ (flag words s || flag others s)
united_flag words others both are s =
    ap (λ x. bit x (s % 64)) (are (s / 64)) ∙ bit-or (get_or words (s / 64) 0) (get_or others (s / 64) 0) (s % 64)

pub none_after_union : (n : ℕ) (words others both : List ℕ) → AreUnited words others both → HasNoFlagFrom words n
    → HasNoFlagFrom others n → HasNoFlagFrom both n
none_after_union n words others both are none none_other s past =
    united_flag words others both are s ∙ rw (none s past, none_other s past) refl

pub is_union : (n : ℕ) (words others both : List ℕ) → AreUnited words others both → HasNoFlagFrom words n
    → HasNoFlagFrom others n → IsUnion (flags_of n words) (flags_of n others) (flags_of n both)
is_union n words others both are none none_other =
    let united : (s : ℕ) → get_or (flags_of n both) s false ≡ (flag words s || flag others s) = λ s.
    flag_told n both s (none_after_union n words others both are none none_other)
    ∙ united_flag words others both are s in record {
      size = flag_count n both ∙ sym (flag_count n words);
      has_one = λ s is. united s ∙ or_left _ _ (sym (flag_told n words s none) ∙ is);
      has_other = λ s is. united s ∙ or_right _ _ (sym (flag_told n others s none_other) ∙ is);
      no_more = λ s is. elim (or_cases _ _ (sym (united s) ∙ is)) [
        | inl one ↦ inl (flag_told n words s none ∙ one)
        | inr other ↦ inr (flag_told n others s none_other ∙ other)
      ];
    }

-- ---- each word within the other, or apart from it

abbrev pub AreWords : List ℕ → Type 0
AreWords words = (k : ℕ) → get_or words k 0 < 2 ^ 64

abbrev pub EachWithin : List ℕ → List ℕ → Type 0
EachWithin words others = (k : ℕ) → bit_or (get_or words k 0) (get_or others k 0) ≡ get_or others k 0

abbrev pub EachApart : List ℕ → List ℕ → Type 0
EachApart words others = (k : ℕ) → bit_and (get_or words k 0) (get_or others k 0) ≡ 0

-- the flag that bit i of word k is
place : (words : List ℕ) (k i : ℕ) → i < 64 → bit (get_or words k 0) i ≡ flag words (64 * k + i)
place words k i low =
    let word : k ≡ (64 * k + i) / 64 = omega arith in
    let bit_place : i ≡ (64 * k + i) % 64 = omega arith in
    ap (λ j. bit (get_or words j 0) i) word ∙ ap (bit (get_or words ((64 * k + i) / 64) 0)) bit_place

bit_past : (w i : ℕ) → w < 2 ^ 64 → 64 ≤ i → bit w i ≡ false
bit_past w i fits past = ap (λ b. b == 1) (bit_at_above w 64 i fits past)

pub flags_within : (words others : List ℕ) → EachWithin words others → AreWithin words others
flags_within words others each s set =
    ap (λ x. bit x (s % 64)) (sym (each (s / 64)))
    ∙ bit-or (get_or words (s / 64) 0) (get_or others (s / 64) 0) (s % 64) ∙ or_left _ _ set

or_within : (a b : Bool) → (a ≡ true → b ≡ true) → (a || b) ≡ b
or_within true b h = sym (h refl)
or_within false b h = refl

pub words_within : (words others : List ℕ) → AreWords words → AreWords others → AreWithin words others
    → EachWithin words others
words_within words others fit others_fit are k =
    let a = get_or words k 0 in
    let b = get_or others k 0 in
    same_codes (bit_or a b) b (λ i. elim (cases_lt i 64) [
      | inl low ↦
          let told : bit a i ≡ true → bit b i ≡ true = λ set.
          place others k i low ∙ are (64 * k + i) (sym (place words k i low) ∙ set) in
          bit-or a b i ∙ or_within (bit a i) (bit b i) told
      | inr past ↦ bit_past (bit_or a b) i (or_lt 64 a b (fit k) (others_fit k)) past
          ∙ sym (bit_past b i (others_fit k) past)
    ])

-- a loop over the words has seen all of them
pub all_within : (words others : List ℕ) (n : ℕ) → length words ≡ length others → length others ≤ n
    → ((k : ℕ) → k < n → bit_or (get_or words k 0) (get_or others k 0) ≡ get_or others k 0) → EachWithin words others
all_within words others n same all each k = elim (cases_lt k n) [
  | inl seen ↦ each k seen
  | inr past ↦
      let none : get_or words k 0 ≡ 0 = get_or_past words k 0 (omega arith) in
      let no_other : get_or others k 0 ≡ 0 = get_or_past others k 0 (omega arith) in
      rw (none, no_other) refl
]

pub all_apart : (words others : List ℕ) (n : ℕ) → length words ≤ n
    → ((k : ℕ) → k < n → bit_and (get_or words k 0) (get_or others k 0) ≡ 0) → EachApart words others
all_apart words others n all each k = elim (cases_lt k n) [
  | inl seen ↦ each k seen
  | inr past ↦
      let none : get_or words k 0 ≡ 0 = get_or_past words k 0 (omega arith) in
      rw none refl
]

pub flags_apart : (words others : List ℕ) → EachApart words others → AreApart words others
flags_apart words others each s set other_set =
    let both : bit (bit_and (get_or words (s / 64) 0) (get_or others (s / 64) 0)) (s % 64) ≡ true =
    bit-and (get_or words (s / 64) 0) (get_or others (s / 64) 0) (s % 64) ∙ and_from _ _ set other_set in
    true≢false (sym both ∙ ap (λ x. bit x (s % 64)) (each (s / 64)) ∙ bit-zero (s % 64))

and_apart : (a b : Bool) → (a ≡ true → b ≡ true → ⊥) → (a && b) ≡ false
and_apart true true h = absurd (h refl refl)
and_apart true false h = refl
and_apart false b h = refl

pub words_apart : (words others : List ℕ) → AreWords words → AreApart words others → EachApart words others
words_apart words others fit are k =
    let a = get_or words k 0 in
    let b = get_or others k 0 in
    same_codes (bit_and a b) 0 (λ i. elim (cases_lt i 64) [
      | inl low ↦
          let told : bit a i ≡ true → bit b i ≡ true → ⊥ = λ set other_set.
          are (64 * k + i) (sym (place words k i low) ∙ set) (sym (place others k i low) ∙ other_set) in
          bit-and a b i ∙ and_apart (bit a i) (bit b i) told ∙ sym (bit-zero i)
      | inr past ↦ bit_past (bit_and a b) i (omega (arith, and_le_l a b, fit k)) past ∙ sym (bit-zero i)
    ])

-- ---- sets as contracts see them

-- the words show these flags, and no others
pub record Shows (n : ℕ) (words : List ℕ) (flags : List Bool) : Type 0 where
  pub view : flags_of n words ≡ flags
  pub none : HasNoFlagFrom words n

pub shows : (n : ℕ) (words slice : List ℕ) (flags : List Bool) → slice ≡ words → flags_of n words ≡ flags
    → HasNoFlagFrom words n → Shows n slice flags
shows n words slice flags same view none = rw same (record { view = view; none = none })

pub same_size : (n m : ℕ) (words others : List ℕ) (one other : List Bool) → Shows n words one → Shows m others other
    → length one ≡ length other → n ≡ m
same_size n m words others one other shown other_shown same =
    omega (arith, flag_count n words, flag_count m others, ap length shown.view, ap length other_shown.view, same)

pub union_seen : (n : ℕ) (words others both items : List ℕ) (one other : List Bool) → Shows n words one
    → Shows n others other → AreUnited words others both → items ≡ both → IsUnion one other (flags_of n items)
union_seen n words others both items one other shown other_shown are kept =
    rw (← shown.view, ← other_shown.view, kept) (is_union n words others both are shown.none other_shown.none)

-- whether a state is in the set
pub told : (n : ℕ) (words : List ℕ) (flags : List Bool) → Shows n words flags → (s : ℕ)
    → get_or flags s false ≡ flag words s
told n words flags shown s = ap (λ l. get_or l s false) (sym shown.view) ∙ flag_told n words s shown.none

pub subset_seen : (n : ℕ) (words others : List ℕ) (one other : List Bool) (r : Bool) → Shows n words one
    → Shows n others other → (IsTrue r ↔ AreWithin words others) → IsTrue r ↔ IsSubset one other
subset_seen n words others one other r shown other_shown is = (
  λ holds s inside. told n others other other_shown s ∙ is.0 holds s (sym (told n words one shown s) ∙ inside),
  λ subset. is.1 (λ s set. sym (told n others other other_shown s) ∙ subset s (told n words one shown s ∙ set)),
)

pub disjoint_seen : (n : ℕ) (words others : List ℕ) (one other : List Bool) (r : Bool) → Shows n words one
    → Shows n others other → (IsTrue r ↔ AreApart words others) → IsTrue r ↔ IsDisjoint one other
disjoint_seen n words others one other r shown other_shown is = (
  λ holds s inside also. is.0 holds s (sym (told n words one shown s) ∙ inside)
      (sym (told n others other other_shown s) ∙ also),
  λ disjoint. is.1 (λ s set also. disjoint s (told n words one shown s ∙ set)
      (told n others other other_shown s ∙ also)),
)

pub none_seen : (n s t : ℕ) (words slice : List ℕ) (flags : List Bool) → slice ≡ words → Shows n words flags → s ≡ t
    → HasNoFlagFrom slice s → HasNoneFrom flags t
none_seen n s t words slice flags same shown at none u late inside =
    true≢false (sym inside ∙ told n words flags shown u ∙ ap (λ l. flag l u) (sym same)
    ∙ none u (omega (arith, at, late)))

pub first_seen : (n s t u : ℕ) (words slice : List ℕ) (flags : List Bool) → slice ≡ words → Shows n words flags → s ≡ t
    → IsFirstFlag slice s u → IsFirstFrom flags t u
first_seen n s t u words slice flags same shown at is = record {
  from = omega (arith, at, is.from);
  inside = told n words flags shown u ∙ ap (λ l. flag l u) (sym same) ∙ is.set;
  first = λ v late inside. is.first v (omega (arith, at, late))
      (ap (λ l. flag l v) same ∙ sym (told n words flags shown v) ∙ inside);
}

-- ---- how many

abbrev count_below : (ℕ → Bool) → ℕ → ℕ
count_below f n = count_by (λ b. b) (map f (range_with_len 0 n))

abbrev pub set_count : List Bool → ℕ
set_count flags = count_by (λ b. b) flags

abbrev weight : Bool → ℕ
weight flag = cond flag 1 0

count_more : (f : ℕ → Bool) (n : ℕ) → count_below f (n + 1) ≡ count_below f n + weight (f n)
count_more f n = sum_by-map-range_with_len_more weight f 0 n n (omega arith)

ones_of_bit : (b : ℕ) → b < 2 → count_ones b ≡ weight (b == 1)
unfolding lib.Count.ones
ones_of_bit b low = elim (below_two b low) [ inl is0 ↦ rw is0 refl | inr is1 ↦ rw is1 refl ]

bits_counted : (w k : ℕ) → count_ones (w % 2 ^ k) ≡ count_below (bit w) k
unfolding lib.Count.ones
bits_counted w zero = let none : w % 2 ^ 0 ≡ 0 = omega arith in rw none refl
bits_counted w (suc k) =
    let next : suc k ≡ 1 + k = omega arith in
    let split : w % 2 ^ (1 + k) ≡ bit_at w k * 2 ^ k + w % 2 ^ k = mod-pow-add w 1 k in
    let above : suc k ≡ k + 1 = omega arith in
    let ones_are : count_ones (w % 2 ^ suc k) ≡ count_ones (bit_at w k) + count_ones (w % 2 ^ k) =
    ap (λ j. count_ones (w % 2 ^ j)) next ∙ ap count_ones split
    ∙ ones_cat k (bit_at w k) (w % 2 ^ k) (mod-lt w (pow_pos k)) in
    omega (
      arith,
      ones_are,
      ones_of_bit (bit_at w k) (bit_at-lt w k),
      bits_counted w k,
      count_more (bit w) k,
      ap (count_below (bit w)) above,
    )

part_counted : (words : List ℕ) (k i : ℕ) → i ≤ 64 → count_below (flag words) (64 * k + i)
    ≡ count_below (flag words) (64 * k) + count_below (bit (get_or words k 0)) i
part_counted words k zero few =
    let same : 64 * k + 0 ≡ 64 * k = omega arith in
    let none : count_below (bit (get_or words k 0)) 0 ≡ 0 = refl in
    omega (arith, ap (count_below (flag words)) same, none)
part_counted words k (suc i) few =
    let last : 64 * k + suc i ≡ 64 * k + i + 1 = omega arith in
    let above : suc i ≡ i + 1 = omega arith in
    let here : weight (bit (get_or words k 0) i) ≡ weight (flag words (64 * k + i)) =
    ap weight (place words k i (omega arith)) in
    omega (
      arith,
      ap (count_below (flag words)) last,
      ap (count_below (bit (get_or words k 0))) above,
      count_more (flag words) (64 * k + i),
      count_more (bit (get_or words k 0)) i,
      part_counted words k i (omega arith),
      here,
    )

pub word_counted : (words : List ℕ) (k w : ℕ) → w ≡ get_or words k 0 → w < 2 ^ 64
    → set_count (flags_of (64 * (k + 1)) words) ≡ set_count (flags_of (64 * k) words) + count_ones w
word_counted words k w is fits =
    let whole : w % 2 ^ 64 ≡ w = omega arith in
    let more : 64 * (k + 1) ≡ 64 * k + 64 = omega arith in
    ap (count_below (flag words)) more ∙ part_counted words k 64 (omega arith)
    ∙ ap (λ x. count_below (flag words) (64 * k) + count_below (bit x) 64) (sym is)
    ∙ ap (λ x. count_below (flag words) (64 * k) + x) (sym (bits_counted w 64) ∙ ap count_ones whole)

tail_counted : (words : List ℕ) (n m : ℕ) → HasNoFlagFrom words n
    → count_below (flag words) (n + m) ≡ count_below (flag words) n
tail_counted words n zero none =
    let same : n + 0 ≡ n = omega arith in
    ap (count_below (flag words)) same
tail_counted words n (suc m) none =
    let last : n + suc m ≡ n + m + 1 = omega arith in
    let nothing : weight (flag words (n + m)) ≡ 0 = ap weight (none (n + m) (omega arith)) in
    omega (
      arith,
      ap (count_below (flag words)) last,
      count_more (flag words) (n + m),
      tail_counted words n m none,
      nothing,
    )

pub all_counted : (n : ℕ) (words : List ℕ) → length words ≡ (n + 63) / 64 → HasNoFlagFrom words n
    → set_count (flags_of (64 * length words) words) ≡ set_count (flags_of n words)
all_counted n words size none =
    let room : 64 * length words ≡ n + (64 * length words - n) = omega (arith, size) in
    ap (count_below (flag words)) room ∙ tail_counted words n (64 * length words - n) none

pub count_within : (n : ℕ) (words : List ℕ) → set_count (flags_of n words) ≤ n
count_within n words = omega (arith, count_by-le-length (λ b. b) (flags_of n words), flag_count n words)

-- ---- the first

-- the rest of a word, from the place at on
abbrev rest_of : List ℕ → ℕ → ℕ
rest_of words at = get_or words (at / 64) 0 / 2 ^ (at % 64)

rest_bit : (words : List ℕ) (at i : ℕ) → bit_at (rest_of words at) i ≡ bit_at (get_or words (at / 64) 0) (at % 64 + i)
rest_bit words at i = ap (λ x. x % 2) (shr-shr (get_or words (at / 64) 0) (at % 64) i)

rest_flag : (words : List ℕ) (at i : ℕ) → at % 64 + i < 64 → bit (rest_of words at) i ≡ flag words (at + i)
rest_flag words at i low =
    let word : at / 64 ≡ (at + i) / 64 = omega (arith, low) in
    let place_is : at % 64 + i ≡ (at + i) % 64 = omega (arith, low) in
    ap (λ b. b == 1) (rest_bit words at i) ∙ ap (λ k. bit (get_or words k 0) (at % 64 + i)) word
    ∙ ap (bit (get_or words ((at + i) / 64) 0)) place_is

pub no_flag_in_rest : (words : List ℕ) (from at : ℕ) → rest_of words at ≡ 0
    → ((u : ℕ) → from ≤ u → u < at → flag words u ≡ false)
    → (u : ℕ) → from ≤ u → u < (at / 64 + 1) * 64 → flag words u ≡ false
no_flag_in_rest words from at none before u late early = elim (cases_lt u at) [
  | inl seen ↦ before u late seen
  | inr past ↦
      let same : u ≡ at + (u - at) = omega (arith, past) in
      ap (flag words) same ∙ sym (rest_flag words at (u - at) (omega (arith, past, early)))
      ∙ ap (λ x. bit x (u - at)) none ∙ bit-zero (u - at)
]

-- t is the place of the lowest bit of the rest
lowest : (words : List ℕ) (at t : ℕ) → AreWords words → bit_at (rest_of words at) t ≡ 1 → at % 64 + t < 64
lowest words at t fit one = elim (cases_lt (at % 64 + t) 64) [
  | inl low ↦ low
  | inr high ↦
      let zero_there = bit_at_above (get_or words (at / 64) 0) 64 (at % 64 + t) (fit (at / 64)) high in
      absurd (omega (arith, one, rest_bit words at t, zero_there))
]

pub first_in_rest : (words : List ℕ) (from at : ℕ) → AreWords words → 0 < rest_of words at → from ≤ at
    → ((u : ℕ) → from ≤ u → u < at → flag words u ≡ false)
    → IsFirstFlag words from (at + count_trailing_zeros 64 (rest_of words at))
first_in_rest words from at fit some late before =
    let rest = rest_of words at in
    let t = count_trailing_zeros 64 rest in
    let fits : rest < 2 ^ 64 = omega (arith, shr_le (get_or words (at / 64) 0) (at % 64), fit (at / 64)) in
    let is = bit_at-trailing_zeros w64 rest some fits in
    let low : at % 64 + t < 64 = lowest words at t fit is.1 in record {
      from = omega (arith, late);
      set = sym (rest_flag words at t low) ∙ ap (λ b. b == 1) is.1;
      first = λ u after set. elim (cases_lt u (at + t)) [
        | inr past ↦ past
        | inl early ↦ elim (cases_lt u at) [
          | inl seen ↦ absurd (true≢false (sym set ∙ before u after seen))
          | inr there ↦
              let same : at + (u - at) ≡ u = omega (arith, there) in
              let unset : bit rest (u - at) ≡ false = ap (λ b. b == 1) (is.2 (u - at) (omega (arith, early, there))) in
              absurd (true≢false (sym set ∙ ap (flag words) (sym same)
              ∙ sym (rest_flag words at (u - at) (omega (arith, early, there, low))) ∙ unset))
        ]
      ];
    }
