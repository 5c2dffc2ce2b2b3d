-- Sets as rows of flags, and the words that these are when turned.
use Rattle.std.proofs.Common.{◌≡◌, ◌≢◌, ℕ, ◌+◌, ◌-◌, ◌*◌, ◌/◌, ◌%◌, ◌^◌, ◌<◌, ◌≤◌, ◌==◌, ◌||◌, ◌&&◌, ◌⊎◌, Bool}
use Rattle.std.proofs.Common.{true, false, zero, suc, List, [], ◌∷◌, ◌++◌, length, get_or, take, set, replicate, sym, refl, ap, ap₂, ◌∙◌}
use Rattle.std.proofs.Common.{arith, inl, inr, bit_or, bit_and, get_or-set_same, get_or-set_other, length-set}
use Rattle.std.proofs.Common.{length-take}
use Rattle.std.proofs.lemmas.Bool.{cases_eq, cases_lt}
use Rattle.std.proofs.lemmas.List.{get_or_past, get_or-replicate, length-replicate, get_or-take, length-map}
use Rattle.std.proofs.lemmas.List.{get_or_append_left, get_or-append_right}
use Rattle.std.proofs.lemmas.List.FromFn.{length-map-range_with_len, get_or-map-range_with_len, fill_by_all}
use Rattle.std.proofs.lemmas.Nat.Bits.{bit_at_above, bit_at_ones}
use Rattle.si_base.specs.Bits.{bit}
use Rattle.si_base.specs.Sets.{flag, flags_of, AreFlags}
use Rattle.si_base.proofs.BitFacts.{bit-zero, bit-or, bit-and}
use Rattle.si_base.proofs.SetsAsWords.{flag_read, flags_by}
use Rattle.si_closures.specs.Loops.Rows.{FlagRows, AreRows, AreTurned, flag_in, set_in}
use Rattle.si_closures.specs.Loops.Turned.{cell, row}
use Rattle.si_closures.specs.Loops.WordSearch.{column}
use Rattle.si_closures.proofs.TurnedLemmas.{shifted_up, shifted_below, shifted_down, same_cell}
use Rattle.si_closures.proofs.WordSearchLemmas.{column-at}

-- ---- one set of the rows
pub set_size : (r : FlagRows) (k : ℕ) → length (set_in r k) ≡ r.states
set_size r k = length-map-range_with_len (flag_in r.rows k) 0 r.states

pub set_read : (r : FlagRows) (k s : ℕ) → s < r.states → get_or (set_in r k) s false ≡ flag_in r.rows k s
set_read r k s within = get_or-map-range_with_len (flag_in r.rows k) 0 r.states s s false within (omega arith)

pub set_by : (r : FlagRows) (k : ℕ) (set : List Bool) → length set ≡ r.states
    → ((s : ℕ) → s < r.states → get_or set s false ≡ flag_in r.rows k s) → set_in r k ≡ set
set_by r k set size each = sym (fill_by_all (flag_in r.rows k) set r.states false size each)

cell_past : (rows : List ℕ) (i j : ℕ) → length rows ≤ i → cell rows i j ≡ false
cell_past rows i j past = ap (λ w. bit w j) (get_or_past rows i 0 past) ∙ bit-zero j

-- one more zero
pub zero_more : (rows words : List ℕ) → ((s : ℕ) → row rows s ≡ row words s) → length words ≤ length rows
    → (s : ℕ) → row (rows ++ 0 ∷ []) s ≡ row words s
zero_more rows words same room s = elim (cases_lt s (length rows)) [
  | inl within ↦ get_or_append_left rows (0 ∷ []) 0 s within ∙ same s
  | inr past ↦ get_or-append_right rows (0 ∷ []) (length rows) s 0 refl past ∙ only_zero (s - length rows)
      ∙ sym (get_or_past words s 0 (omega (arith, room, past)))
]
  where
    only_zero : (i : ℕ) → row (0 ∷ []) i ≡ 0
    only_zero zero = refl
    only_zero (suc i) = refl

-- ---- no set has a state
zero_cell : (count i j : ℕ) → cell (replicate count 0) i j ≡ false
zero_cell count i j =
    elim (cases_lt i count) [
      | inl within ↦ ap (λ w. bit w j) (get_or-replicate {A = ℕ} count i 0 0 within) ∙ bit-zero j
      | inr past ↦ cell_past (replicate count 0) i j (omega (arith, length-replicate {A = ℕ} count 0, past))
    ]

pub no_states : (n count k : ℕ) → set_in (record { states = n; rows = replicate count 0 }) k ≡ replicate n false
no_states n count k = set_by (record { states = n; rows = replicate count 0 }) k (replicate n false)
    (length-replicate n false)
    (λ s within. get_or-replicate n s false false within ∙ sym (zero_cell count (128 * (s / 128) + k) (s % 128)))

-- ---- turned
-- the place of a state and a set in a block, from either side
module _ (s k : ℕ) (small : k < 128) where
  same_block : 128 * ((128 * (s / 128) + k) / 128) + s % 128 ≡ s
  same_block = omega (arith, small)

  same_place : (128 * (s / 128) + k) % 128 ≡ k
  same_place = omega (arith, small)

pub turned_back : (old new : List ℕ) → AreTurned old new → (k s : ℕ) → k < 128 → flag_in new k s ≡ cell old s k
turned_back old new are k s small =
    are.each (128 * (s / 128) + k) (s % 128) (omega arith) ∙ same_cell old (same_block s k small) (same_place s k small)

-- the first n blocks are turned, and the rows behind them are as they were
pub record AreTurnedBelow (old : List ℕ) (n : ℕ) (new : List ℕ) : Type 0 where
  pub size : length new ≡ length old
  pub before : (s k : ℕ) → s < 128 * n → k < 128 → cell new s k ≡ flag_in old k s
  pub others : (s : ℕ) → 128 * n ≤ s → row new s ≡ row old s

pub none_turned : (old : List ℕ) → AreTurnedBelow old 0 old
none_turned old = record {
  size = refl;
  before = λ s k early small. absurd (omega (arith, early));
  others = λ s past. refl;
}

module _ (old new next : List ℕ) (n : ℕ) (before : AreTurnedBelow old n new) (size : length next ≡ length new)
    (turned : (i j : ℕ) → i < 128 → j < 128 → cell next (128 * n + i) j ≡ cell new (128 * n + j) i)
    (others : (k : ℕ) → (k < 128 * n) ⊎ (128 * n + 128 ≤ k) → row next k ≡ row new k) where
  turned_here : (s k : ℕ) → s / 128 ≡ n → k < 128 → cell next s k ≡ flag_in old k s
  turned_here s k here small =
      let place : s ≡ 128 * n + s % 128 = omega (arith, here) in
      let start : 128 * n + k ≡ 128 * (s / 128) + k = ap (λ m. 128 * m + k) (sym here) in
      same_cell next place refl ∙ turned (s % 128) k (omega arith) small
      ∙ ap (λ w. bit w (s % 128)) (before.others (128 * n + k) (omega arith)) ∙ same_cell old start refl

  pub one_block_turned : AreTurnedBelow old (n + 1) next
  one_block_turned = record {
    size = size ∙ before.size;
    before = λ s k early small. elim (cases_lt s (128 * n)) [
      | inl sooner ↦ ap (λ w. bit w k) (others s (inl sooner)) ∙ before.before s k sooner small
      | inr past ↦ turned_here s k (omega (arith, early, past)) small
    ];
    others = λ s past. others s (inr (omega (arith, past))) ∙ before.others s (omega (arith, past));
  }

pub all_turned : (old new : List ℕ) (n : ℕ) → length old % 128 ≡ 0 → length old / 128 ≤ n
    → AreTurnedBelow old n new → AreTurned old new
all_turned old new n whole all are = record {
  size = are.size;
  each = λ s k small. elim (cases_lt s (128 * n)) [
    | inl early ↦ are.before s k early small
    | inr past ↦ cell_past new s k (let kept = are.size in omega (arith, past, all, whole, kept))
        ∙ sym (cell_past old (128 * (s / 128) + k) (s % 128) (omega (arith, past, all, whole)))
  ];
}

-- the rows of words, which may be followed by zeros
module _ (n : ℕ) (words rows new : List ℕ) (few : n < 2 ^ 32) (count : length words ≡ n)
    (same : (s : ℕ) → row rows s ≡ row words s) (size : length rows ≡ 128 * ((length words + 127) / 128))
    (are : AreTurned rows new) where
  flag_told : (k s : ℕ) → k < 128 → flag_in new k s ≡ cell words s k
  flag_told k s small = turned_back rows new are k s small ∙ ap (λ w. bit w k) (same s)

  pub rows_of_words : AreRows n new
  rows_of_words = record {
    few = few;
    size = are.size ∙ size ∙ ap (λ m. 128 * ((m + 127) / 128)) count;
    none = λ k s small past. flag_told k s small ∙ cell_past words s k (omega (arith, count, past));
  }

  pub sets_of_columns : (k : ℕ) → k < 128 → set_in (record { states = n; rows = new }) k ≡ column k words
  sets_of_columns k small = set_by (record { states = n; rows = new }) k (column k words)
      (length-map words (λ (w : ℕ). bit w k) ∙ count)
      (λ s within. column-at k words s ∙ sym (flag_told k s small))

-- the words of rows, without those past the last state
module _ (n : ℕ) (rows new : List ℕ) (rows_are : AreRows n rows) (are : AreTurned rows new) where
  pub words_count : length (take n new) ≡ n
  words_count =
      let all : n ≤ length new = (let size = rows_are.size in let kept = are.size in omega (arith, size, kept)) in
      omega (arith, length-take n new, all)

  pub columns_of_sets : (k : ℕ) → k < 128 → column k (take n new) ≡ set_in (record { states = n; rows = rows }) k
  columns_of_sets k small = sym (set_by (record { states = n; rows = rows }) k (column k (take n new))
      (length-map (take n new) (λ (w : ℕ). bit w k) ∙ words_count)
      (λ s within. column-at k (take n new) s ∙ ap (λ w. bit w k) (get_or-take n new s 0 within) ∙ are.each s k small))

-- ---- the flags of one set, block after block
-- in the first n blocks the set k has the flags of the words, and all other flags are as they were
pub record ArePut (k : ℕ) (words old : List ℕ) (n : ℕ) (new : List ℕ) : Type 0 where
  pub size : length new ≡ length old
  pub before : (s : ℕ) → s < 128 * n → flag_in new k s ≡ flag words s
  pub others : (j s : ℕ) → j < 128 → (j ≢ k) ⊎ (128 * n ≤ s) → flag_in new j s ≡ flag_in old j s

pub none_put : (k : ℕ) (words old : List ℕ) → ArePut k words old 0 old
none_put k words old = record {
  size = refl;
  before = λ s early. absurd (omega (arith, early));
  others = λ j s small apart. refl;
}

module _ (k n w : ℕ) (small : k < 128) (words old new : List ℕ) (within : 128 * n + k < length new)
    (is : (i : ℕ) → i < 128 → bit w i ≡ flag words (128 * n + i)) (before : ArePut k words old n new) where
  abbrev next : List ℕ
  next = set new (128 * n + k) w

  put_here : (s : ℕ) → s / 128 ≡ n → flag_in next k s ≡ flag words s
  put_here s here =
      let there : 128 * (s / 128) + k ≡ 128 * n + k = ap (λ m. 128 * m + k) here in
      let whole : 128 * n + s % 128 ≡ s = omega (arith, here) in
      ap (λ p. cell next p (s % 128)) there ∙ ap (λ v. bit v (s % 128)) (get_or-set_same new (128 * n + k) w 0 within)
      ∙ is (s % 128) (omega arith) ∙ ap (flag words) whole

  put_elsewhere : (j s : ℕ) → j < 128 → (j ≢ k) ⊎ (s / 128 ≢ n) → flag_in next j s ≡ flag_in new j s
  put_elsewhere j s j_small apart =
      ap (λ v. bit v (s % 128)) (get_or-set_other new (128 * n + k) (128 * (s / 128) + j) w 0 (places apart))
    where
      places : (j ≢ k) ⊎ (s / 128 ≢ n) → 128 * (s / 128) + j ≢ 128 * n + k
      places (inl other) same = other (omega (arith, same, small, j_small))
      places (inr away) same = away (omega (arith, same, small, j_small))

  pub one_block_put : ArePut k words old (n + 1) next
  one_block_put = record {
    size = length-set new (128 * n + k) w ∙ before.size;
    before = λ s early. elim (cases_eq (s / 128) n) [
      | inl here ↦ put_here s here
      | inr away ↦ put_elsewhere k s small (inr away) ∙ before.before s (omega (arith, early, away))
    ];
    others = λ j s j_small apart. put_elsewhere j s j_small (later s apart)
        ∙ before.others j s j_small (still s apart);
  }
    where
      later : {j : ℕ} (s : ℕ) → (j ≢ k) ⊎ (128 * (n + 1) ≤ s) → (j ≢ k) ⊎ (s / 128 ≢ n)
      later s (inl other) = inl other
      later s (inr past) = inr (λ here. absurd (omega (arith, here, past)))

      still : {j : ℕ} (s : ℕ) → (j ≢ k) ⊎ (128 * (n + 1) ≤ s) → (j ≢ k) ⊎ (128 * n ≤ s)
      still s (inl other) = inl other
      still s (inr past) = inr (omega (arith, past))

pub flag_past : (words : List ℕ) (s : ℕ) → length words ≤ s / 64 → flag words s ≡ false
flag_past words s past = ap (λ w. bit w (s % 64)) (get_or_past words (s / 64) 0 past) ∙ bit-zero (s % 64)

-- all blocks
pub all_put : (k n : ℕ) (words old new : List ℕ) → length old ≡ 128 * ((length words + 1) / 2)
    → length old / 128 ≤ n → ArePut k words old n new → (s : ℕ) → flag_in new k s ≡ flag words s
all_put k n words old new size all are s = elim (cases_lt s (128 * n)) [
  | inl early ↦ are.before s early
  | inr past ↦
      cell_past new (128 * (s / 128) + k) (s % 128) (let kept = are.size in omega (arith, past, all, size, kept))
      ∙ sym (flag_past words s (omega (arith, past, all, size)))
]

-- what becomes of the sets
module _ (n k : ℕ) (words old new : List ℕ) (set : List Bool) (size : length set ≡ n)
    (flags : AreFlags (length set) words) (there : (s : ℕ) → flag_in new k s ≡ flag words s) where
  pub set_put : set ≡ flags_of (length set) words → set_in (record { states = n; rows = new }) k ≡ set
  set_put told = set_by (record { states = n; rows = new }) k set size
      (λ s within. ap (λ flags. get_or flags s false) told
      ∙ flag_read (length set) words s (omega (arith, size, within)) ∙ sym (there s))

  pub rows_put : AreRows n old → length new ≡ length old
      → ((j s : ℕ) → j < 128 → j ≢ k → flag_in new j s ≡ flag_in old j s) → AreRows n new
  rows_put before kept others = record {
    few = before.few;
    size = kept ∙ before.size;
    none = λ j s j_small past. elim (cases_eq j k) [
      | inl same ↦ ap (λ i. flag_in new i s) same ∙ there s ∙ flags.none s (omega (arith, size, past))
      | inr other ↦ others j s j_small other ∙ before.none j s j_small past
    ];
  }

pub set_kept : (n j : ℕ) (old new : List ℕ) → ((s : ℕ) → flag_in new j s ≡ flag_in old j s)
    → set_in (record { states = n; rows = new }) j ≡ set_in (record { states = n; rows = old }) j
set_kept n j old new same = set_by (record { states = n; rows = new }) j (set_in (record { states = n; rows = old }) j)
    (set_size (record { states = n; rows = old }) j)
    (λ s within. set_read (record { states = n; rows = old }) j s within ∙ sym (same s))

-- ---- the flags of one set, word after word
-- the first n words have the flags of the set k
pub record AreGot (rows : List ℕ) (k count n : ℕ) (words : List ℕ) : Type 0 where
  pub size : length words ≡ count
  pub before : (s : ℕ) → s < 64 * n → flag words s ≡ flag_in rows k s

module _ (rows : List ℕ) (k count n w : ℕ) (words : List ℕ) (within : n < count)
    (is : (i : ℕ) → i < 64 → bit w i ≡ cell rows (128 * (n / 2) + k) (64 * (n % 2) + i))
    (before : AreGot rows k count n words) where
  pub one_word_got : AreGot rows k count (n + 1) (set words n w)
  one_word_got = record {
    size = length-set words n w ∙ before.size;
    before = λ s early. elim (cases_eq (s / 64) n) [
      | inl here ↦ got_here s here
      | inr away ↦ ap (λ v. bit v (s % 64)) (get_or-set_other words n (s / 64) w 0 away)
          ∙ before.before s (omega (arith, early, away))
    ];
  }
    where
      got_here : (s : ℕ) → s / 64 ≡ n → flag (set words n w) s ≡ flag_in rows k s
      got_here s here =
          let inside : n < length words = (let size = before.size in omega (arith, size, within)) in
          ap (λ p. bit (get_or (set words n w) p 0) (s % 64)) here
          ∙ ap (λ v. bit v (s % 64)) (get_or-set_same words n w 0 inside)
          ∙ is (s % 64) (omega arith)
          ∙ same_cell rows (omega (arith, here)) (omega (arith, here))

module _ (n k : ℕ) (rows words : List ℕ) (small : k < 128) (are : AreRows n rows)
    (count : length words ≡ (n + 63) / 64) (told : (s : ℕ) → s < 64 * length words → flag words s ≡ flag_in rows k s)
  where
    pub flags_got : AreFlags n words
    flags_got = record {
      few = are.few;
      size = count;
      none = λ s past. elim (cases_lt s (64 * length words)) [
        | inl early ↦ told s early ∙ are.none k s small past
        | inr late ↦ flag_past words s (omega (arith, late))
      ];
    }

    pub set_got : flags_of n words ≡ set_in (record { states = n; rows = rows }) k
    set_got = flags_by n words (set_in (record { states = n; rows = rows }) k)
        (set_size (record { states = n; rows = rows }) k)
        (λ s within. set_read (record { states = n; rows = rows }) k s within
        ∙ sym (told s (omega (arith, count, within))))

-- ---- two words of flags in a row
low_flag : (words : List ℕ) (b i : ℕ) → i < 64 → flag words (128 * b + i) ≡ bit (get_or words (2 * b) 0) i
low_flag words b i low =
    let word : (128 * b + i) / 64 ≡ 2 * b = omega (arith, low) in
    let place : (128 * b + i) % 64 ≡ i = omega (arith, low) in
    same_cell words word place

high_flag : (words : List ℕ) (b i : ℕ) → 64 ≤ i → i < 128
    → flag words (128 * b + i) ≡ bit (get_or words (2 * b + 1) 0) (i - 64)
high_flag words b i high below =
    let word : (128 * b + i) / 64 ≡ 2 * b + 1 = omega (arith, high, below) in
    let place : (128 * b + i) % 64 ≡ i - 64 = omega (arith, high, below) in
    same_cell words word place

module _ (words : List ℕ) (b low : ℕ) (is : low ≡ get_or words (2 * b) 0) (fits : low < 2 ^ 64) where
  high_none : (i : ℕ) → 64 ≤ i → bit low i ≡ false
  high_none i high = ap (λ x. x == 1) (bit_at_above low 64 i fits high)

  pub low_alone : length words ≤ 2 * b + 1 → (i : ℕ) → i < 128 → bit low i ≡ flag words (128 * b + i)
  low_alone last i below = elim (cases_lt i 64) [
    | inl early ↦ ap (λ w. bit w i) is ∙ sym (low_flag words b i early)
    | inr high ↦ high_none i high ∙ sym (flag_past words (128 * b + i) (omega (arith, last, high)))
  ]

  pub both_halves : (high : ℕ) → high ≡ get_or words (2 * b + 1) 0 → (i : ℕ) → i < 128
      → bit (bit_or low (high * 2 ^ 64 % 2 ^ 128)) i ≡ flag words (128 * b + i)
  both_halves high same i below = bit-or low (high * 2 ^ 64 % 2 ^ 128) i ∙ elim (cases_lt i 64) [
    | inl early ↦ ap₂ (λ x y. x || y) (ap (λ w. bit w i) is) (shifted_below high 64 i early (omega arith))
        ∙ or_false _ ∙ sym (low_flag words b i early)
    | inr late ↦ ap₂ (λ x y. x || y) (high_none i late) (moved late)
        ∙ ap (λ w. bit w (i - 64)) same ∙ sym (high_flag words b i late below)
  ]
    where
      or_false : (x : Bool) → (x || false) ≡ x
      or_false true = refl
      or_false false = refl

      moved : 64 ≤ i → bit (high * 2 ^ 64 % 2 ^ 128) i ≡ bit high (i - 64)
      moved late =
          let back : i - 64 + 64 ≡ i = omega (arith, late) in
          ap (bit (high * 2 ^ 64 % 2 ^ 128)) (sym back) ∙ shifted_up high 64 (i - 64) (omega (arith, below, late))

-- ---- one half of a row
pub half_bit : (row upper i : ℕ) → i < 64 → bit (bit_and (row / 2 ^ (64 * upper)) (2 ^ 64 - 1)) i ≡ bit row (64 * upper + i)
half_bit row upper i low =
    bit-and (row / 2 ^ (64 * upper)) (2 ^ 64 - 1) i
    ∙ ap (λ x. bit (row / 2 ^ (64 * upper)) i && x) (ap (λ x. x == 1) (bit_at_ones 64 i low))
    ∙ and_true _ ∙ shifted_down row (64 * upper) i ∙ ap (bit row) turned
  where
    and_true : (x : Bool) → (x && true) ≡ x
    and_true true = refl
    and_true false = refl

    turned : i + 64 * upper ≡ 64 * upper + i
    turned = omega arith
