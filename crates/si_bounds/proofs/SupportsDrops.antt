-- Signals that are dropped in signal order: without a further signal, and beside it.
use Rattle.std.proofs.Common.{◌≡◌, ◌≢◌, ℕ, zero, suc, ◌+◌, ◌^◌, ◌==◌, ◌<◌, ◌≤◌, ◌⊎◌, not, Bool, true, false, length}
use Rattle.std.proofs.Common.{if◌then◌else◌, refl, sym, ap, ◌∙◌, arith, inl, inr}
use Rattle.std.proofs.lemmas.Bool.{cases_Bool, cases_lt, true≢false}
use Rattle.std.proofs.lemmas.Bool.Decides.{eqb_tells}
use Rattle.std.proofs.lemmas.Nat.{xor_comm}
use Rattle.std.proofs.lemmas.Nat.Bits.{bit_at_ones, bit_at_ones_above}
use Rattle.std.specs.Int.Bits.{xor_assoc, xor_self, xor_zero_r, bit_xor}
use Rattle.si_base.specs.Bits.{bit, flip, ones}
use Rattle.si_base.specs.Codes.{CodedGraph}
use Rattle.si_base.proofs.BitFacts.{same_codes, flip-same, flip-other}
use Rattle.si_match.specs.Support.{determines, support_by_drops, support_of}
use Rattle.si_match.proofs.DroppingLemmas.{determined_by_more}

-- ---- sets of signals
pub below_count : (n j : ℕ) → j < n → bit (ones n) j ≡ true
below_count n j low = ap (λ v. v == 1) (bit_at_ones n j low)

pub past_count : (n j : ℕ) → n ≤ j → bit (ones n) j ≡ false
past_count n j high = ap (λ v. v == 1) (bit_at_ones_above n j high)

-- the signals of a larger count are those of the smaller one and the last
ones_more : (n : ℕ) → ones (suc n) ≡ flip (ones n) n
ones_more n = same_codes (ones (suc n)) (flip (ones n) n) (λ j. elim (eqb_tells j n) [
  | inl last ↦ ap (bit (ones (suc n))) last.1 ∙ below_count (suc n) n (omega arith)
      ∙ sym (ap (bit (flip (ones n) n)) last.1 ∙ flip-same (ones n) n ∙ ap not (past_count n n (omega arith)))
  | inr other ↦ by_place j other.1 ∙ sym (flip-other (ones n) n j other.1)
])
  where
    by_place : (j : ℕ) → j ≢ n → bit (ones (suc n)) j ≡ bit (ones n) j
    by_place j other = elim (cases_lt j n) [
      | inl low ↦ below_count (suc n) j (omega (arith, low)) ∙ sym (below_count n j low)
      | inr high ↦ past_count (suc n) j (grind (arith, high, other)) ∙ sym (past_count n j high)
    ]

flip_twice : (set i : ℕ) → flip (flip set i) i ≡ set
flip_twice set i = xor_assoc set (2 ^ i) (2 ^ i) ∙ ap (bit_xor set) (xor_self (2 ^ i)) ∙ xor_zero_r set

flips_swap : (set i k : ℕ) → flip (flip set i) k ≡ flip (flip set k) i
flips_swap set i k =
    xor_assoc set (2 ^ i) (2 ^ k) ∙ ap (bit_xor set) (xor_comm (2 ^ i) (2 ^ k)) ∙ sym (xor_assoc set (2 ^ k) (2 ^ i))

-- ---- trying one signal after the other
module _ (c : CodedGraph) (z : ℕ) where
  -- what is left of the set when signal i is tried
  abbrev pub tried : ℕ → ℕ → ℕ
  tried i set = if determines c z (flip set i) then flip set i else set

  tried_as : (i set : ℕ) (b : Bool) → determines c z (flip set i) ≡ b → tried i set ≡ (if b then flip set i else set)
  tried_as i set b is = ap (λ v. if v then flip set i else set) is

  last_tried : (count i set : ℕ) → support_by_drops c z (suc count) i set
      ≡ tried (i + count) (support_by_drops c z count i set)
  last_tried zero i set = let none : i + 0 ≡ i = omega arith in rw none refl
  last_tried (suc count) i set =
      let next : i + suc count ≡ i + 1 + count = omega arith in
      rw next (last_tried count (i + 1) (tried i set))

  -- other signals than those that are tried are as before
  pub untried_stays : (count i set j : ℕ) → (i ≤ j → j < i + count → ⊥)
      → bit (support_by_drops c z count i set) j ≡ bit set j
  untried_stays zero i set j outside = refl
  untried_stays (suc count) i set j outside =
      untried_stays count (i + 1) (tried i set) j (λ low high. outside (omega (arith, low)) (omega (arith, high)))
      ∙ not_here (determines c z (flip set i)) refl
    where
      not_here : (b : Bool) → determines c z (flip set i) ≡ b → bit (tried i set) j ≡ bit set j
      not_here b is = ap (λ s. bit s j) (tried_as i set b is) ∙ by_value b
        where
          by_value : (b : Bool) → bit (if b then flip set i else set) j ≡ bit set j
          by_value true = flip-other set i j (λ same. outside (omega (arith, same)) (omega (arith, same)))
          by_value false = refl

  -- no signal past the last is in the support
  pub none_past : (j : ℕ) → length c.graph.signals ≤ j → bit (support_of c z) j ≡ false
  unfolding support_of
  none_past j high =
      let n = length c.graph.signals in
      untried_stays n 0 (ones n) j (λ low below. omega (arith, below, high)) ∙ past_count n j high

-- ---- the signals of c, and beside them a new one, the last of d
module _ (c d : CodedGraph) (z : ℕ) (one_more : length d.graph.signals ≡ suc (length c.graph.signals))
    (still : (few more : ℕ)
    → ((j : ℕ) → bit few j ≡ true → (j ≢ length c.graph.signals) × (bit more j ≡ true))
    → determines c z few ≡ true → determines d z more ≡ true) where
  abbrev n : ℕ
  n = length c.graph.signals

  -- what is left beside the new signal once all others have been tried
  abbrev left : ℕ
  left = support_by_drops d z n 0 (flip (ones n) n)

  -- the set is there when signal j is tried, with so many signals to come: alone, and beside the new one
  pub record IsThere (count j set : ℕ) : Type 0 where
    pub alone : support_by_drops c z count j set ≡ support_of c z
    pub beside : support_by_drops d z count j (flip set n) ≡ left
    pub later : (k : ℕ) → j ≤ k → k < n → bit set k ≡ true
    pub none : (k : ℕ) → n ≤ k → bit set k ≡ false

  all_there : IsThere n 0 (ones n)
  unfolding support_of
  all_there = record {
    alone = refl;
    beside = refl;
    later = λ k low high. below_count n k high;
    none = past_count n;
  }

  -- the new signal is tried last
  tried_last : support_of d z ≡ tried d z n left
  unfolding support_of
  tried_last =
      let first : 0 + n ≡ n = omega arith in
      ap (λ m. support_by_drops d z m 0 (ones m)) one_more ∙ ap (support_by_drops d z (suc n) 0) (ones_more n)
      ∙ last_tried d z n 0 (flip (ones n) n) ∙ ap (λ m. tried d z m left) first

  not_new : bit (support_of c z) n ≡ false
  not_new = none_past c z n (omega arith)

  new_left : bit left n ≡ true
  new_left =
      untried_stays d z n 0 (flip (ones n) n) n (λ low high. omega (arith, high)) ∙ flip-same (ones n) n
      ∙ ap not (past_count n n (omega arith))

  -- what is there when a signal is tried
  module _ (count j set : ℕ) (inside : j + suc count ≡ n) (at : IsThere (suc count) j set) where
    pub without_old : (k : ℕ) → bit (flip set j) k ≡ true → k ≢ n
    without_old k there same = true≢false (
        sym there ∙ flip-other set j k (λ here. omega (arith, here, same, inside))
        ∙ at.none k (omega (arith, same)))

    pub beside_same : (k : ℕ) → k ≢ n → bit (flip (flip set n) j) k ≡ bit (flip set j) k
    beside_same k old = ap (λ s. bit s k) (flips_swap set n j) ∙ flip-other (flip set j) n k old

    dropped_beside : determines c z (flip set j) ≡ true → determines d z (flip (flip set n) j) ≡ true
    dropped_beside = still (flip set j) (flip (flip set n) j)
        (λ k there. (without_old k there, beside_same k (without_old k there) ∙ there))

    dropped_there : determines c z (flip set j) ≡ true → IsThere count (j + 1) (flip set j)
    dropped_there needless = record {
      alone = sym (ap (support_by_drops c z count (j + 1)) (tried_as c z j set true needless)) ∙ at.alone;
      beside = sym (ap (support_by_drops d z count (j + 1))
          (tried_as d z j (flip set n) true (dropped_beside needless) ∙ flips_swap set n j)) ∙ at.beside;
      later = λ k low high. flip-other set j k (λ same. omega (arith, low, same))
          ∙ at.later k (omega (arith, low)) high;
      none = λ k high. flip-other set j k (λ same. omega (arith, high, same, inside)) ∙ at.none k high;
    }

    kept_there : determines c z (flip set j) ≡ false → determines d z (flip (flip set n) j) ≡ false
        → IsThere count (j + 1) set
    kept_there needed beside = record {
      alone = sym (ap (support_by_drops c z count (j + 1)) (tried_as c z j set false needed)) ∙ at.alone;
      beside = sym (ap (support_by_drops d z count (j + 1)) (tried_as d z j (flip set n) false beside)) ∙ at.beside;
      later = λ k low high. at.later k (omega (arith, low)) high;
      none = at.none;
    }

    -- the signals before it are those of the support
    pub earlier : (k : ℕ) → k < j → bit (support_of c z) k ≡ bit set k
    earlier k before =
        ap (λ s. bit s k) (sym at.alone)
        ∙ untried_stays c z (suc count) j set k (λ low high. omega (arith, low, before))

    -- and it is in the support where it is needed
    pub needed_in : determines c z (flip set j) ≡ false → bit (support_of c z) j ≡ true
    needed_in needed =
        ap (λ s. bit s j) (sym at.alone)
        ∙ ap (λ s. bit (support_by_drops c z count (j + 1) s) j) (tried_as c z j set false needed)
        ∙ untried_stays c z count (j + 1) set j (λ low high. omega (arith, low))
        ∙ at.later j (omega arith) (omega (arith, inside))

  -- each signal that is kept alone is kept beside the new one
  abbrev pub KeepsBeside : Type 0
  KeepsBeside = (count j set : ℕ) → j + suc count ≡ n → IsThere (suc count) j set
      → determines c z (flip set j) ≡ false → determines d z (flip (flip set n) j) ≡ false

  module _ (determined : determines c z (support_of c z) ≡ true) where
    module _ (keeps : KeepsBeside) where
      same_left : (count j set : ℕ) → j + count ≡ n → IsThere count j set → left ≡ flip (support_of c z) n
      same_left zero j set end at = sym at.beside ∙ ap (λ s. flip s n) at.alone
      same_left (suc count) j set end at = elim (cases_Bool (determines c z (flip set j))) [
        | inl needless ↦ same_left count (j + 1) (flip set j) (omega (arith, end))
            (dropped_there count j set end at needless)
        | inr needed ↦ same_left count (j + 1) set (omega (arith, end))
            (kept_there count j set end at needed (keeps count j set end at needed))
      ]

      -- then the support stays as it is: the new signal is dropped
      pub support_stays : support_of d z ≡ support_of c z
      support_stays =
          tried_last ∙ ap (tried d z n) (same_left n 0 (ones n) (omega arith) all_there)
          ∙ tried_as d z n (flip (support_of c z) n) true (ap (determines d z) twice ∙ new_needless) ∙ twice
        where
          twice : flip (flip (support_of c z) n) n ≡ support_of c z
          twice = flip_twice (support_of c z) n

          new_needless : determines d z (support_of c z) ≡ true
          new_needless = still (support_of c z) (support_of c z)
              (λ k there. (λ same. true≢false (sym there ∙ ap (bit (support_of c z)) same ∙ not_new), there)) determined

    -- ---- the support stays as it is, or has the new signal
    module _ (before : (set : ℕ) → bit set n ≡ false → determines d z set ≡ true → determines c z set ≡ true) where
      -- what is left determines the next value without the new signal
      module _ (needless : determines d z (flip left n) ≡ true) where
        absent : bit (flip left n) n ≡ false
        absent = flip-same left n ∙ ap not new_left

        -- so each signal that is dropped beside it is dropped alone
        left_within : (count j set : ℕ) → j + suc count ≡ n → IsThere (suc count) j set
            → determines d z (flip (flip set n) j) ≡ true
            → (k : ℕ) → bit (flip left n) k ≡ true → bit (flip set j) k ≡ true
        left_within count j set inside at dropped k there = elim (cases_lt j k) [
          | inl behind ↦ elim (cases_lt k n) [
            | inl low ↦ flip-other set j k (λ same. omega (arith, behind, same))
                ∙ at.later k (omega (arith, behind)) low
            | inr high ↦ untried (λ low below. omega (arith, high, below, inside))
          ]
          | inr before_it ↦ untried (λ low below. omega (arith, low, before_it))
        ]
          where
            old : k ≢ n
            old same = true≢false (sym there ∙ ap (bit (flip left n)) same ∙ absent)

            left_is : left ≡ support_by_drops d z count (j + 1) (flip (flip set n) j)
            left_is = sym at.beside
                ∙ ap (support_by_drops d z count (j + 1)) (tried_as d z j (flip set n) true dropped)

            untried : (j + 1 ≤ k → k < j + 1 + count → ⊥) → bit (flip set j) k ≡ true
            untried outside =
                sym (beside_same count j set inside at k old)
                ∙ sym (untried_stays d z count (j + 1) (flip (flip set n) j) k outside)
                ∙ ap (λ s. bit s k) (sym left_is) ∙ sym (flip-other left n k old) ∙ there

        keeps_all : KeepsBeside
        keeps_all count j set inside at needed = elim (cases_Bool (determines d z (flip (flip set n) j))) [
          | inl dropped ↦ absurd (true≢false (
              sym (determined_by_more c z (flip left n) (flip set j) (left_within count j set inside at dropped)
              (before (flip left n) absent needless)) ∙ needed))
          | inr kept ↦ kept
        ]

      pub stays_or_reads : (support_of d z ≡ support_of c z) ⊎ (bit (support_of d z) n ≡ true)
      stays_or_reads = elim (cases_Bool (determines d z (flip left n))) [
        | inl needless ↦ inl (support_stays (keeps_all needless))
        | inr needed ↦ inr (ap (λ s. bit s n) (tried_last ∙ tried_as d z n left false needed) ∙ new_left)
      ]
