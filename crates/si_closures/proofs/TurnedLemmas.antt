-- Matrices of bits: how quarters of blocks change places, and how the whole is turned by that.
use Rattle.std.proofs.Common.{◌≡◌, ◌≢◌, ℕ, ◌+◌, ◌-◌, ◌*◌, ◌/◌, ◌%◌, ◌^◌, ◌<◌, ◌≤◌, ◌==◌, ◌&&◌, ◌||◌, ◌⊎◌}
use Rattle.std.proofs.Common.{Bool, true, false, not, List, refl, sym, ap, ap₂, ◌∙◌, arith, inl, inr, subst}
use Rattle.std.proofs.Common.{bit_and, bit_or, get_or, set, get_or-set_same, get_or-set_other, length, length-set, map}
use Rattle.std.proofs.lemmas.Bool.{cases_eq}
use Rattle.std.proofs.lemmas.List.FromFn.{get_or-map-range_with_len}
use Rattle.std.proofs.lemmas.Nat.{shr-shr, shr_split, pow_pos, row_fits, div-mul-add}
use Rattle.std.proofs.lemmas.Nat.Bits.{bit_at_cat_low, bit_at_cat_high}
use Rattle.std.specs.Int.{bit_at}
use Rattle.std.specs.List.{range_with_len}
use Rattle.si_base.specs.Bits.{bit}
use Rattle.si_base.proofs.BitFacts.{bit-or, bit-and, bit-zero}
use Rattle.si_closures.specs.Loops.Turned.{row, cell, AreBlocksTurned, HasHalves, AreExchanged, ArePairExchanged}
use Rattle.si_closures.proofs.WordBits.{not_is, bit_few}

-- ---- shifted bits
low_bit_kept : (n w i : ℕ) → i < w → bit_at (n % 2 ^ w) i ≡ bit_at n i
low_bit_kept n w i below =
    sym (bit_at_cat_low (n / 2 ^ w) w (n % 2 ^ w) i below) ∙ ap (λ m. bit_at m i) (shr_split n w)

whole_shift : (x k j : ℕ) → k ≤ j → bit_at (x * 2 ^ k) j ≡ bit_at x (j - k)
whole_shift x k j past =
    let none : x * 2 ^ k + 0 ≡ x * 2 ^ k = omega arith in
    ap (λ m. bit_at m j) (sym none) ∙ bit_at_cat_high x k 0 j (pow_pos k) past

pub shifted_up : (x k j : ℕ) → j + k < 128 → bit (x * 2 ^ k % 2 ^ 128) (j + k) ≡ bit x j
shifted_up x k j below =
    let back : j + k - k ≡ j = omega arith in
    ap (λ b. b == 1) (low_bit_kept (x * 2 ^ k) 128 (j + k) below ∙ whole_shift x k (j + k) (omega arith)
    ∙ ap (λ i. bit_at x i) back)

pub shifted_below : (x k j : ℕ) → j < k → k < 128 → bit (x * 2 ^ k % 2 ^ 128) j ≡ false
shifted_below x k j below fits =
    let none : x * 2 ^ k + 0 ≡ x * 2 ^ k = omega arith in
    ap (λ b. b == 1) (low_bit_kept (x * 2 ^ k) 128 j (omega (arith, below, fits)) ∙ ap (λ m. bit_at m j) (sym none)
    ∙ bit_at_cat_low x k 0 j below) ∙ bit-zero j

pub shifted_down : (x k j : ℕ) → bit (x / 2 ^ k) j ≡ bit x (j + k)
shifted_down x k j =
    let turned : k + j ≡ j + k = omega arith in
    ap (λ n. n % 2 == 1) (shr-shr x k j ∙ ap (λ i. x / 2 ^ i) turned)

-- ---- one word at the columns of a mask, and another one elsewhere
abbrev pub picked : ℕ → ℕ → ℕ → ℕ
picked low here elsewhere = bit_or (bit_and here low) (bit_and elsewhere (2 ^ 128 - 1 - low))

picked_bit : (low here elsewhere j : ℕ) (v : Bool) → low < 2 ^ 128 → j < 128 → bit low j ≡ v
    → bit (picked low here elsewhere) j ≡ ((bit here j && v) || (bit elsewhere j && not v))
picked_bit low here elsewhere j v fits below is =
    let others = 2 ^ 128 - 1 - low in
    bit-or (bit_and here low) (bit_and elsewhere others) j
    ∙ ap₂ (λ x y. x || y) (bit-and here low j) (bit-and elsewhere others j)
    ∙ ap₂ (λ x y. (bit here j && x) || (bit elsewhere j && y)) is (not_is low j fits below ∙ ap not is)

pub picked_here : (low here elsewhere j : ℕ) → low < 2 ^ 128 → bit low j ≡ true
    → bit (picked low here elsewhere) j ≡ bit here j
picked_here low here elsewhere j fits is =
    picked_bit low here elsewhere j true fits (bit_few low j fits is) is ∙ one_side (bit here j) (bit elsewhere j)
  where
    one_side : (a b : Bool) → ((a && true) || (b && not true)) ≡ a
    one_side true b = refl
    one_side false true = refl
    one_side false false = refl

pub picked_elsewhere : (low here elsewhere j : ℕ) → low < 2 ^ 128 → j < 128 → bit low j ≡ false
    → bit (picked low here elsewhere) j ≡ bit elsewhere j
picked_elsewhere low here elsewhere j fits below is =
    picked_bit low here elsewhere j false fits below is ∙ other_side (bit here j) (bit elsewhere j)
  where
    other_side : (a b : Bool) → ((a && false) || (b && not false)) ≡ b
    other_side true true = refl
    other_side true false = refl
    other_side false true = refl
    other_side false false = refl

-- ---- two rows
-- the bits are those of one word at the columns of the mask, and those of another one elsewhere
pub record IsPicked (low one other word : ℕ) : Type 0 where
  pub here : (j : ℕ) → bit low j ≡ true → bit word j ≡ bit one j
  pub elsewhere : (j : ℕ) → j < 128 → bit low j ≡ false → bit word j ≡ bit other j

pub exchanged : (width low above below new_above new_below : ℕ)
    → IsPicked low above (below * 2 ^ width % 2 ^ 128) new_above
    → IsPicked low (above / 2 ^ width) below new_below
    → AreExchanged width low above below new_above new_below
exchanged width low above below new_above new_below upper lower = record {
  upper_left = upper.here;
  upper_right = λ j fits is. upper.elsewhere (j + width) fits is ∙ shifted_up below width j fits;
  lower_left = λ j is. lower.here j is ∙ shifted_down above width j;
  lower_right = lower.elsewhere;
}

-- the same words under other names
pub exchanged_as : {width low a b c d e f g h : ℕ} → a ≡ e → b ≡ f → c ≡ g → d ≡ h
    → AreExchanged width low a b c d → AreExchanged width low e f g h
exchanged_as {width} above below new_above new_below are = record {
  upper_left = λ j is. same_bit new_above j ∙ are.upper_left j is ∙ ap (λ w. bit w j) above;
  upper_right = λ j fits is. same_bit new_above (j + width) ∙ are.upper_right j fits is ∙ ap (λ w. bit w j) below;
  lower_left = λ j is. same_bit new_below j ∙ are.lower_left j is ∙ ap (λ w. bit w (j + width)) above;
  lower_right = λ j fits is. same_bit new_below j ∙ are.lower_right j fits is ∙ ap (λ w. bit w j) below;
}
  where
    same_bit : {v w : ℕ} → v ≡ w → (j : ℕ) → bit w j ≡ bit v j
    same_bit same j = ap (λ x. bit x j) (sym same)

-- written into their rows
pub written : (width low : ℕ) (old : List ℕ) (i above below : ℕ) → i + width < length old → 0 < width
    → AreExchanged width low (row old i) (row old (i + width)) above below
    → ArePairExchanged width low old (set (set old i above) (i + width) below) i
written width low old i above below inside apart are = exchanged_as refl refl (sym upper) (sym lower) are
  where
    upper : row (set (set old i above) (i + width) below) i ≡ above
    upper = get_or-set_other (set old i above) (i + width) i below 0 (omega (arith, apart))
        ∙ get_or-set_same old i above 0 (omega (arith, inside))

    lower : row (set (set old i above) (i + width) below) (i + width) ≡ below
    lower = get_or-set_same (set old i above) (i + width) below 0 (omega (arith, inside, length-set old i above))

-- ---- the rows of a band
-- the first n pairs of rows from that row on are exchanged, and no other row is changed
pub record AreExchangedBelow (width low : ℕ) (old : List ℕ) (first n : ℕ) (new : List ℕ) : Type 0 where
  pub size : length new ≡ 128
  pub pairs : (s : ℕ) → s < n → ArePairExchanged width low old new (first + s)
  pub others : (k : ℕ) → ((s : ℕ) → s < n → (k ≢ first + s) × (k ≢ first + s + width)) → row new k ≡ row old k

pub one_pair_more : (width low : ℕ) (old : List ℕ) (first n : ℕ) (new next : List ℕ) → n < width
    → AreExchangedBelow width low old first n new → length next ≡ 128
    → ArePairExchanged width low new next (first + n)
    → ((k : ℕ) → k ≢ first + n → k ≢ first + n + width → row next k ≡ row new k)
    → AreExchangedBelow width low old first (n + 1) next
one_pair_more width low old first n new next inside before size pair others = record {
  size = size;
  pairs = λ s early. elim (cases_eq s n) [
    | inl same ↦ subst (λ r. ArePairExchanged width low old next (first + r)) (sym same) last
    | inr other ↦ kept s (omega (arith, early, other))
  ];
  others = λ k apart. (
      let here = apart n (omega arith) in
      others k here.0 here.1 ∙ before.others k (λ s early. apart s (omega (arith, early))));
}
  where
    last : ArePairExchanged width low old next (first + n)
    last = exchanged_as
        (before.others (first + n) (λ s early. (omega (arith, early), omega (arith, early, inside))))
        (before.others (first + n + width) (λ s early. (omega (arith, early, inside), omega (arith, early)))) refl refl
        pair

    kept : (s : ℕ) → s < n → ArePairExchanged width low old next (first + s)
    kept s early = exchanged_as refl refl
        (sym (others (first + s) (omega (arith, early)) (omega (arith, early, inside))))
        (sym (others (first + s + width) (omega (arith, early, inside)) (omega (arith, early))))
        (before.pairs s early)

-- ---- the bands
-- the first n bands are exchanged, and no row behind them is changed
pub record AreBandsExchanged (width low : ℕ) (old : List ℕ) (n : ℕ) (new : List ℕ) : Type 0 where
  pub size : length new ≡ 128
  pub pairs : (p s : ℕ) → p < n → s < width → ArePairExchanged width low old new (2 * (p * width) + s)
  pub others : (k : ℕ) → 2 * (n * width) ≤ k → row new k ≡ row old k

pub row_before : (p n width : ℕ) → p < n → p * width + width ≤ n * width
row_before p n width before = row_fits p width n width before (omega arith)

pub one_band_more : (width low : ℕ) (old : List ℕ) (n : ℕ) (new next : List ℕ)
    → AreBandsExchanged width low old n new → length next ≡ 128
    → ((s : ℕ) → s < width → ArePairExchanged width low new next (2 * (n * width) + s))
    → ((k : ℕ) → (k < 2 * (n * width)) ⊎ (2 * (n * width) + 2 * width ≤ k) → row next k ≡ row new k)
    → AreBandsExchanged width low old (n + 1) next
one_band_more width low old n new next before size pairs others = record {
  size = size;
  pairs = λ p s early inside. elim (cases_eq p n) [
    | inl same ↦ subst (λ r. ArePairExchanged width low old next (2 * (r * width) + s)) (sym same) (last s inside)
    | inr other ↦ kept p s (omega (arith, early, other)) inside
  ];
  others = λ k past. (
      let more : (n + 1) * width ≡ n * width + width = grind arith in
      others k (inr (omega (arith, past, more))) ∙ before.others k (omega (arith, past, more)));
}
  where
    last : (s : ℕ) → s < width → ArePairExchanged width low old next (2 * (n * width) + s)
    last s inside = exchanged_as
        (before.others (2 * (n * width) + s) (omega arith))
        (before.others (2 * (n * width) + s + width) (omega arith)) refl refl (pairs s inside)

    kept : (p s : ℕ) → p < n → s < width → ArePairExchanged width low old next (2 * (p * width) + s)
    kept p s early inside =
        let above = row_before p n width early in
        exchanged_as refl refl
        (sym (others (2 * (p * width) + s) (inl (omega (arith, inside, above)))))
        (sym (others (2 * (p * width) + s + width) (inl (omega (arith, inside, above)))))
        (before.pairs p s early inside)

-- ---- one round
even_or_odd : (n : ℕ) → (n ≡ 2 * (n / 2)) ⊎ (n ≡ 2 * (n / 2) + 1)
even_or_odd n = elim (cases_eq (n % 2) 0) [
  | inl even ↦ inl (omega (arith, even))
  | inr odd ↦ inr (omega (arith, odd))
]

pub same_cell : (rows : List ℕ) {i j k l : ℕ} → i ≡ k → j ≡ l → cell rows i j ≡ cell rows k l
same_cell rows i_same j_same = ap₂ (λ x y. cell rows x y) i_same j_same

module _ (n width low : ℕ) (old mid new : List ℕ) (before : AreBlocksTurned n (2 * width) old mid)
    (pairs : (p s : ℕ) → p < n → s < width → ArePairExchanged width low mid new (2 * (p * width) + s))
    (all : n * (2 * width) ≡ 128) (halves : HasHalves n width low) where
  -- the first row or column of a block, counted in halves
  even_half : (p : ℕ) → 2 * p * width ≡ 2 * (p * width)
  even_half p = grind arith

  odd_half : (p : ℕ) → (2 * p + 1) * width ≡ 2 * (p * width) + width
  odd_half p = grind arith

  block_start : (p : ℕ) → p * (2 * width) ≡ 2 * (p * width)
  block_start p = grind arith

  -- in the blocks that are there before the round
  in_block : (p q s t : ℕ) → p < n → q < n → s < 2 * width → t < 2 * width
      → cell mid (2 * (p * width) + s) (2 * (q * width) + t) ≡ cell old (2 * (q * width) + s) (2 * (p * width) + t)
  in_block p q s t p_in q_in s_in t_in =
      same_cell mid (sym (ap (λ x. x + s) (block_start p))) (sym (ap (λ x. x + t) (block_start q)))
      ∙ before p q s t p_in q_in s_in t_in
      ∙ same_cell old (ap (λ x. x + s) (block_start q)) (ap (λ x. x + t) (block_start p))

  column_within : (q t : ℕ) → q < n → t < width → 2 * (q * width) + t + width < 128
  column_within q t q_in t_in = omega (arith, row_before q n width q_in, t_in, all, block_start n)

  -- what the round makes of the four quarters
  record InQuarters (p q s t : ℕ) : Type 0 where
    upper_left : cell new (2 * (p * width) + s) (2 * (q * width) + t)
        ≡ cell old (2 * (q * width) + s) (2 * (p * width) + t)
    upper_right : cell new (2 * (p * width) + s) (2 * (q * width) + t + width)
        ≡ cell old (2 * (q * width) + (s + width)) (2 * (p * width) + t)
    lower_left : cell new (2 * (p * width) + s + width) (2 * (q * width) + t)
        ≡ cell old (2 * (q * width) + s) (2 * (p * width) + (t + width))
    lower_right : cell new (2 * (p * width) + s + width) (2 * (q * width) + t + width)
        ≡ cell old (2 * (q * width) + (s + width)) (2 * (p * width) + (t + width))

  in_quarters : (p q s t : ℕ) → p < n → q < n → s < width → t < width → InQuarters p q s t
  in_quarters p q s t p_in q_in s_in t_in =
      let pair = pairs p s p_in s_in in
      let left = halves q t q_in t_in in
      let column = 2 * (q * width) + t in
      let within = column_within q t q_in t_in in
      let below : 2 * (p * width) + s + width ≡ 2 * (p * width) + (s + width) = omega arith in
      let right : column + width ≡ 2 * (q * width) + (t + width) = omega arith in
      record {
        upper_left = pair.upper_left column left.0
            ∙ in_block p q s t p_in q_in (omega (arith, s_in)) (omega (arith, t_in));
        upper_right = pair.upper_right column within left.1 ∙ same_cell mid below refl
            ∙ in_block p q (s + width) t p_in q_in (omega (arith, s_in)) (omega (arith, t_in));
        lower_left = pair.lower_left column left.0 ∙ same_cell mid refl right
            ∙ in_block p q s (t + width) p_in q_in (omega (arith, s_in)) (omega (arith, t_in));
        lower_right = pair.lower_right (column + width) within left.1 ∙ same_cell mid below right
            ∙ in_block p q (s + width) (t + width) p_in q_in (omega (arith, s_in)) (omega (arith, t_in));
      }

  even_at : (p x r : ℕ) → p ≡ 2 * x → p * width + r ≡ 2 * (x * width) + r
  even_at p x r even = ap (λ m. m * width + r) even ∙ ap (λ m. m + r) (even_half x)

  odd_at : (p x r : ℕ) → p ≡ 2 * x + 1 → p * width + r ≡ 2 * (x * width) + r + width
  odd_at p x r odd = ap (λ m. m * width + r) odd ∙ omega (arith, odd_half x)

  odd_within : (p x r : ℕ) → p ≡ 2 * x + 1 → p * width + r ≡ 2 * (x * width) + (r + width)
  odd_within p x r odd = ap (λ m. m * width + r) odd ∙ omega (arith, odd_half x)

  pub halves_turned : AreBlocksTurned (2 * n) width old new
  halves_turned p q s t p_in q_in s_in t_in =
      let x = p / 2 in
      let y = q / 2 in
      let quarters = in_quarters x y s t (omega (arith, p_in)) (omega (arith, q_in)) s_in t_in in
      elim (even_or_odd p) [
        | inl p_even ↦ elim (even_or_odd q) [
          | inl q_even ↦ same_cell new (even_at p x s p_even) (even_at q y t q_even) ∙ quarters.upper_left
              ∙ sym (same_cell old (even_at q y s q_even) (even_at p x t p_even))
          | inr q_odd ↦ same_cell new (even_at p x s p_even) (odd_at q y t q_odd) ∙ quarters.upper_right
              ∙ sym (same_cell old (odd_within q y s q_odd) (even_at p x t p_even))
        ]
        | inr p_odd ↦ elim (even_or_odd q) [
          | inl q_even ↦ same_cell new (odd_at p x s p_odd) (even_at q y t q_even) ∙ quarters.lower_left
              ∙ sym (same_cell old (even_at q y s q_even) (odd_within p x t p_odd))
          | inr q_odd ↦ same_cell new (odd_at p x s p_odd) (odd_at q y t q_odd) ∙ quarters.lower_right
              ∙ sym (same_cell old (odd_within q y s q_odd) (odd_within p x t p_odd))
        ]
      ]

-- ---- all rounds
pub as_one_block : (rows : List ℕ) → AreBlocksTurned 1 128 rows rows
as_one_block rows p q s t p_in q_in s_in t_in =
    let first : p ≡ 0 = omega (arith, p_in) in
    let left : q ≡ 0 = omega (arith, q_in) in
    same_cell rows (ap (λ x. x * 128 + s) (first ∙ sym left)) (ap (λ x. x * 128 + t) (left ∙ sym first))

pub all_turned : (old new : List ℕ) → AreBlocksTurned 128 1 old new → (i j : ℕ) → i < 128 → j < 128
    → cell new i j ≡ cell old j i
all_turned old new blocks i j i_in j_in =
    let whole : (x : ℕ) → x ≡ x * 1 + 0 = λ x. omega arith in
    same_cell new (whole i) (whole j) ∙ blocks i j 0 0 i_in j_in (omega arith) (omega arith)
    ∙ sym (same_cell old (whole j) (whole i))

-- ---- masks
pub has_halves : (n width low : ℕ) → n * (2 * width) ≡ 128
    → map (λ j. bit low j) (range_with_len 0 128) ≡ map (λ j. j / width % 2 == 0) (range_with_len 0 128)
    → HasHalves n width low
has_halves n width low all same q t q_in t_in =
    let left : 2 * (q * width) + t < 128 = omega (arith, row_before q n width q_in, t_in, all, start n) in
    let right : 2 * (q * width) + t + width < 128 = omega (arith, row_before q n width q_in, t_in, all, start n) in (
      told (2 * (q * width) + t) left ∙ ap (λ x. x % 2 == 0) in_left ∙ even,
      told (2 * (q * width) + t + width) right ∙ ap (λ x. x % 2 == 0) in_right ∙ odd,
    )
  where
    start : (m : ℕ) → m * (2 * width) ≡ 2 * (m * width)
    start m = grind arith

    told : (j : ℕ) → j < 128 → bit low j ≡ (j / width % 2 == 0)
    told j inside =
        sym (get_or-map-range_with_len (λ x. bit low x) 0 128 j j false inside (omega arith))
        ∙ ap (λ flags. get_or flags j false) same
        ∙ get_or-map-range_with_len (λ x. x / width % 2 == 0) 0 128 j j false inside (omega arith)

    in_left : (2 * (q * width) + t) / width ≡ 2 * q
    in_left =
        let at : 2 * (q * width) + t ≡ 2 * q * width + t = grind arith in
        ap (λ x. x / width) at ∙ div-mul-add (2 * q) width t t_in

    in_right : (2 * (q * width) + t + width) / width ≡ 2 * q + 1
    in_right =
        let at : 2 * (q * width) + t + width ≡ (2 * q + 1) * width + t = grind arith in
        ap (λ x. x / width) at ∙ div-mul-add (2 * q + 1) width t t_in

    even : (2 * q % 2 == 0) ≡ true
    even = let e : 2 * q % 2 ≡ 0 = omega arith in rw e refl

    odd : ((2 * q + 1) % 2 == 0) ≡ false
    odd = let e : (2 * q + 1) % 2 ≡ 1 = omega arith in rw e refl

-- a round, by a mask that has the columns it should
abbrev pub HasLeftHalves : ℕ → ℕ → Type 0
HasLeftHalves width low =
    map (λ j. bit low j) (range_with_len 0 128) ≡ map (λ j. j / width % 2 == 0) (range_with_len 0 128)

pub one_round : (n width low : ℕ) (old mid new : List ℕ) → AreBlocksTurned n (2 * width) old mid
    → ((p s : ℕ) → p < n → s < width → ArePairExchanged width low mid new (2 * (p * width) + s))
    → n * (2 * width) ≡ 128 → HasLeftHalves width low → AreBlocksTurned (2 * n) width old new
one_round n width low old mid new before pairs all same =
    halves_turned n width low old mid new before pairs all (has_halves n width low all same)
