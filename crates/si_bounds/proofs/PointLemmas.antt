-- The values of places at states, as bits, and what truth tables miss there.
use Rattle.std.proofs.Common.{◌≡◌, ◌≢◌, ℕ, suc, ◌⊎◌, ◌+◌, ◌-◌, ◌*◌, ◌/◌, ◌%◌, ◌<◌, ◌≤◌, ◌==◌, ◌^◌, ◌&&◌, ◌||◌}
use Rattle.std.proofs.Common.{not, Bool, true, false, List, [], ◌∷◌, ◌++◌, length, get_or, if◌then◌else◌, All, Contains}
use Rattle.std.proofs.Common.{bit_and, bit_or, bit_xor, refl, sym, ap, subst, ◌∙◌, arith, inl, inr, eq-eqb, eqb-true, ◌↔◌, IsTrue}
use Rattle.std.specs.Int.{bit_at}
use Rattle.std.proofs.lemmas.Bool.{cases_Bool, true≢false}
use Rattle.std.proofs.lemmas.List.{length-append, length_push, get_or_append_left, get_or_default, get_or_push}
use Rattle.std.proofs.lemmas.List.Elements.{All-push, Contains-append_left, Contains-push, Contains-push_cases}
use Rattle.std.proofs.lemmas.Bool.Decides.{eqb_tells}
use Rattle.std.proofs.lemmas.Nat.{shr-shr, shr_split, pow_pos}
use Rattle.std.proofs.lemmas.Nat.Bits.{bit_at_cat_low, bit_at_cat_high}
use Rattle.std.proofs.Math.Seq.{get_or-append_seam}
use mathlib.Core.Bool.{beq}
use Rattle.si_base.specs.Bits.{bit}
use Rattle.si_base.proofs.BitFacts.{bit-and, bit-or, bit-zero, same_codes}
use Rattle.si_cell.specs.Library.{code_of}
use Rattle.si_cell.specs.Limits.{table_codes}
use Rattle.si_cell.proofs.ExpandedLemmas.{bit_of}
use Rattle.si_match.proofs.ColumnLemmas.{same_at_codes}
use Rattle.si_match.proofs.PlaceLemmas.{bit_of_xor, both_bits}
use Rattle.si_base.specs.Bits.{IsSet}
use Rattle.si_base.specs.Codes.{CodedGraph}
use Rattle.si_bounds.specs.Loops.Points.{AreMissed, ArePoints, Clashes, IsBlind, IsMissedByOne, IsMissedTold}
use Rattle.si_bounds.specs.Loops.Points.{MissesLess, SomeMissLess, is_missed, point_of}
use Rattle.si_bounds.specs.declared.points.Missed.{Missed}
use Rattle.si_bounds.specs.declared.points.Places.{Places}
use Rattle.si_bounds.specs.declared.points.Points.{Points}

-- ---- codes of values
one_le : (b : Bool) → (if b then 1 else 0) ≤ 1
one_le true = omega arith
one_le false = omega arith

code_small : (values : List Bool) → code_of values < 2 ^ length values
code_small [] = omega arith
code_small (v ∷ values) =
    let later = code_small values in
    let double : 2 ^ suc (length values) ≡ 2 * 2 ^ length values = omega arith in
    omega (arith, later, double, one_le v)

-- a value 1 in place of 0 adds the power of its place
one_above : (before after : List Bool)
    → code_of (before ++ false ∷ after) + 2 ^ length before ≡ code_of (before ++ true ∷ after)
one_above [] after = omega arith
one_above (b ∷ before) after =
    let later = one_above before after in
    let double : 2 ^ suc (length before) ≡ 2 * 2 ^ length before = omega arith in
    omega (arith, later, double)

-- ---- shifted bits
shifted_down : (x k j : ℕ) → bit (x / 2 ^ k) j ≡ bit x (j + k)
shifted_down x k j =
    let turned : k + j ≡ j + k = omega arith in
    ap (λ n. n % 2 == 1) (shr-shr x k j ∙ ap (λ i. x / 2 ^ i) turned)

shifted_up : (x k w j : ℕ) → j + k < w → bit (x * 2 ^ k % 2 ^ w) (j + k) ≡ bit x j
shifted_up x k w j below =
    ap (λ b. b == 1) (kept ∙ whole ∙ ap (bit_at x) back)
  where
    kept : bit_at (x * 2 ^ k % 2 ^ w) (j + k) ≡ bit_at (x * 2 ^ k) (j + k)
    kept = sym (bit_at_cat_low (x * 2 ^ k / 2 ^ w) w (x * 2 ^ k % 2 ^ w) (j + k) below)
        ∙ ap (λ m. bit_at m (j + k)) (shr_split (x * 2 ^ k) w)

    back : j + k - k ≡ j
    back = omega arith

    whole : bit_at (x * 2 ^ k) (j + k) ≡ bit_at x (j + k - k)
    whole =
        let none : x * 2 ^ k + 0 ≡ x * 2 ^ k = omega arith in
        ap (λ m. bit_at m (j + k)) (sym none) ∙ bit_at_cat_high x k 0 (j + k) (pow_pos k) (omega arith)

not_false : (b : Bool) → not b ≡ false → b ≡ true
not_false true told = refl
not_false false told = absurd (true≢false told)

-- ---- a table whose value depends on a place
-- where no value changes, it is the same so far above
pub unchanged : (table above codes : ℕ) → not (bit_and (bit_xor table (table / 2 ^ above)) codes == 0) ≡ false
    → (m : ℕ) → bit codes m ≡ true → bit table m ≡ bit table (m + above)
unchanged table above codes told m in_codes =
    by_values (bit table m) (bit (table / 2 ^ above) m) differ ∙ shifted_down table above m
  where
    none : bit_and (bit_xor table (table / 2 ^ above)) codes ≡ 0
    none = eqb-true _ 0 (not_false _ told)

    differ : ((if bit table m then not (bit (table / 2 ^ above) m) else bit (table / 2 ^ above) m) && true) ≡ false
    differ =
        ap (λ b. (if bit table m then not (bit (table / 2 ^ above) m) else bit (table / 2 ^ above) m) && b) (sym in_codes)
        ∙ ap (λ b. b && bit codes m) (sym (bit_of_xor table (table / 2 ^ above) m))
        ∙ sym (bit-and (bit_xor table (table / 2 ^ above)) codes m) ∙ ap (λ k. bit k m) none ∙ bit-zero m

    by_values : (a b : Bool) → ((if a then not b else b) && true) ≡ false → a ≡ b
    by_values true true same = refl
    by_values true false same = absurd (true≢false same)
    by_values false true same = absurd (true≢false same)
    by_values false false same = refl

module _ (table place above codes : ℕ) (power : 2 ^ place ≡ above)
    (codes_are : (m : ℕ) → m < table_codes → bit codes m ≡ not (bit m place))
    (same : (m : ℕ) → bit codes m ≡ true → bit table m ≡ bit table (m + above)) where
  pub is_blind : IsBlind table place
  is_blind before after at count =
      same m (codes_are m small ∙ ap not absent) ∙ ap (bit table) next
    where
      m : ℕ
      m = code_of (before ++ false ∷ after)

      counted : length (before ++ false ∷ after) ≡ 5
      counted = omega (arith, length-append before (false ∷ after), length-append before after, count)

      small : m < table_codes
      small = subst (λ n. m < 2 ^ n) counted (code_small (before ++ false ∷ after))

      absent : bit m place ≡ false
      absent = ap (bit m) (sym at) ∙ bit_of (before ++ false ∷ after) (length before)
          ∙ get_or-append_seam before false after false

      next : m + above ≡ code_of (before ++ true ∷ after)
      next = ap (λ n. m + n) (sym power ∙ ap (λ n. 2 ^ n) (sym at)) ∙ one_above before after

pub without_first : (m : ℕ) → m < table_codes → bit 858993459 m ≡ not (bit m 1)
without_first = same_at_codes (bit 858993459) (λ m. not (bit m 1)) refl

pub without_second : (m : ℕ) → m < table_codes → bit 252645135 m ≡ not (bit m 2)
without_second = same_at_codes (bit 252645135) (λ m. not (bit m 2)) refl

pub without_third : (m : ℕ) → m < table_codes → bit 16711935 m ≡ not (bit m 3)
without_third = same_at_codes (bit 16711935) (λ m. not (bit m 3)) refl

last_codes : (m : ℕ) → m < table_codes → bit 4294901760 m ≡ bit m 4
last_codes = same_at_codes (bit 4294901760) (λ m. bit m 4) refl

-- ---- a table where the last place has one value
module _ (table : ℕ) (values : List Bool) (four : length values ≡ 4) where
  abbrev code_with : Bool → ℕ
  code_with last = code_of (values ++ last ∷ [])

  counted : (last : Bool) → length (values ++ last ∷ []) ≡ 5
  counted last = omega (arith, length-append values (last ∷ []), four)

  code_below : (last : Bool) → code_with last < table_codes
  code_below last = subst (λ n. code_with last < 2 ^ n) (counted last) (code_small (values ++ last ∷ []))

  last_bit : (last : Bool) → bit (code_with last) 4 ≡ last
  last_bit last = ap (bit (code_with last)) (sym four) ∙ bit_of (values ++ last ∷ []) (length values)
      ∙ get_or-append_seam values last [] false

  in_last : (last : Bool) → bit 4294901760 (code_with last) ≡ last
  in_last last = last_codes (code_with last) (code_below last) ∙ last_bit last

  up : code_with false + 16 ≡ code_with true
  up = ap (λ n. code_with false + 2 ^ n) (sym four) ∙ one_above values []

  -- one table at the codes with the last place, another one elsewhere
  by_last : (low high : ℕ) (last : Bool) → bit (bit_xor low (bit_and (bit_xor low high) 4294901760)) (code_with last)
      ≡ (if last then bit high (code_with last) else bit low (code_with last))
  by_last low high last =
      bit_of_xor low (bit_and (bit_xor low high) 4294901760) m
      ∙ rw (bit-and (bit_xor low high) 4294901760 m, bit_of_xor low high m, in_last last)
      (chosen (bit low m) (bit high m) last)
    where
      m : ℕ
      m = code_with last

      chosen : (a b v : Bool) → (if a then not ((if a then not b else b) && v) else ((if a then not b else b) && v))
          ≡ (if v then b else a)
      chosen true true true = refl
      chosen true true false = refl
      chosen true false true = refl
      chosen true false false = refl
      chosen false true true = refl
      chosen false true false = refl
      chosen false false true = refl
      chosen false false false = refl

  pub with_one : (last : Bool) → bit (bit_xor (table / 65536) (bit_and (bit_xor (table / 65536) table) 4294901760))
      (code_with last) ≡ bit table (code_with true)
  with_one true = by_last (table / 65536) table true
  with_one false = by_last (table / 65536) table false ∙ shifted_down table 16 (code_with false) ∙ ap (bit table) up

  pub with_zero : (last : Bool) → bit (bit_xor table (bit_and (bit_xor table (table * 65536 % 4294967296)) 4294901760))
      (code_with last) ≡ bit table (code_with false)
  with_zero true =
      let below : code_with false + 16 < 32 = (let small = code_below true in omega (arith, up, small)) in
      by_last table (table * 65536 % 4294967296) true
      ∙ ap (bit (table * 65536 % 4294967296)) (sym up) ∙ shifted_up table 16 32 (code_with false) below
  with_zero false = by_last table (table * 65536 % 4294967296) false

  pub missed_there : (new : Bool) (made : ℕ) → ((last : Bool) → bit made (code_with last) ≡ bit table (code_with new))
      → (next : Bool) → bit (bit_xor made 4294901760) (code_with next) ≡ is_missed table new values next
  missed_there new made is next =
      bit_of_xor made 4294901760 (code_with next)
      ∙ rw (is next, in_last next) (other (bit table (code_with new)) next)
    where
      other : (a b : Bool) → (if a then not b else b) ≡ not (beq a b)
      other true true = refl
      other true false = refl
      other false true = refl
      other false false = refl

-- ---- sets of missed points
both_true : (a b : Bool) → a ≡ true → b ≡ true → (a && b) ≡ true
both_true true b first second = second
both_true false b first second = first

pub clash_found : (missed : Missed) → IsTrue (not (bit_and missed.at_zero missed.at_one == 0)) ↔ Clashes missed
clash_found missed = (found, none)
  where
    both : ℕ
    both = bit_and missed.at_zero missed.at_one

    found : IsTrue (not (both == 0)) → Clashes missed
    found told = both_bits missed.at_zero missed.at_one told

    none : Clashes missed → IsTrue (not (both == 0))
    none (m, zero_misses, one_misses) = elim (cases_Bool (both == 0)) [
      | inl nothing ↦ absurd (
          let there = bit-and missed.at_zero missed.at_one m ∙ both_true _ _ zero_misses one_misses in
          true≢false (sym there ∙ ap (λ k. bit k m) (eqb-true both 0 nothing) ∙ bit-zero m))
      | inr some ↦ ap not some
    ]

-- every bit of the one is one of the other
within_if_same : (one other : ℕ) → bit_or one other ≡ other → (m : ℕ) → bit one m ≡ true → bit other m ≡ true
within_if_same one other same m there =
    sym (ap (λ k. bit k m) same) ∙ bit-or one other m ∙ ap (λ b. b || bit other m) there

same_if_within : (one other : ℕ) → ((m : ℕ) → bit one m ≡ true → bit other m ≡ true)
    → bit_or one other ≡ other
same_if_within one other within = same_codes (bit_or one other) other
    (λ m. bit-or one other m ∙ absorbed (bit one m) (bit other m) (within m))
  where
    absorbed : (a b : Bool) → (a ≡ true → b ≡ true) → (a || b) ≡ b
    absorbed true b there = sym (there refl)
    absorbed false b there = refl

module _ (one other : Missed) where
  pub less_missed : bit_or one.at_zero other.at_zero ≡ other.at_zero
      → IsTrue (bit_or one.at_one other.at_one == other.at_one) ↔ MissesLess one other
  less_missed zero_same = (
    λ one_same. record {
      at_zero = within_if_same one.at_zero other.at_zero zero_same;
      at_one = within_if_same one.at_one other.at_one (eqb-true (bit_or one.at_one other.at_one) other.at_one one_same);
    },
    λ less. eq-eqb (bit_or one.at_one other.at_one) other.at_one
        (same_if_within one.at_one other.at_one less.at_one),
  )

  pub more_missed : (bit_or one.at_zero other.at_zero ≡ other.at_zero → ⊥)
      → IsTrue (bit_or one.at_zero other.at_zero == other.at_zero) ↔ MissesLess one other
  more_missed zero_differs = (
    λ same. absurd (zero_differs (eqb-true (bit_or one.at_zero other.at_zero) other.at_zero same)),
    λ less. absurd (zero_differs (same_if_within one.at_zero other.at_zero less.at_zero)),
  )

pub no_less : (m : Missed) → MissesLess m m
no_less m = record { at_zero = λ k there. there; at_one = λ k there. there }

-- ---- the least of what tables miss
-- what each of the first tables, so many, misses is told, and no other is there
pub record AreLeastBefore (tables : List ℕ) (seen count : ℕ) (least : List Missed) : Type 0 where
  pub told : (k : ℕ) → k < count → IsMissedTold (get_or tables k 0) seen least
  pub no_more : All (IsMissedByOne tables seen) least

module _ (tables : List ℕ) (seen : ℕ) where
  told_next : (k : ℕ) (least : List Missed) → ((j : ℕ) → j < k → IsMissedTold (get_or tables j 0) seen least)
      → IsMissedTold (get_or tables k 0) seen least → (j : ℕ) → j < k + 1 → IsMissedTold (get_or tables j 0) seen least
  told_next k least before here j low = elim (eqb_tells j k) [
    | inl same ↦ subst (λ i. IsMissedTold (get_or tables i 0) seen least) (sym same.1) here
    | inr other ↦ (let not_last = other.1 in before j (grind (arith, low, not_last)))
  ]

  module _ (k : ℕ) (least : List Missed) (before : AreLeastBefore tables seen k least) (missed : Missed)
      (are : AreMissed (get_or tables k 0) seen missed) where
    pub told_already : Clashes missed ⊎ SomeMissLess least missed → AreLeastBefore tables seen (k + 1) least
    told_already told = record {
      told = told_next k least before.told (record { missed = missed; are = are; told = told });
      no_more = before.no_more;
    }

    pub one_told : (more : List Missed) → k < length tables → more ≡ least ++ missed ∷ []
        → AreLeastBefore tables seen (k + 1) more
    one_told more inside more_is = subst (AreLeastBefore tables seen (k + 1)) (sym more_is) record {
      told = told_next k (least ++ missed ∷ []) (λ j low. still (before.told j low)) record {
        missed = missed;
        are = are;
        told = inr (missed, Contains-push least missed, no_less missed);
      };
      no_more = All-push (IsMissedByOne tables seen) least missed before.no_more
          (get_or tables k 0, (k, inside, get_or_default tables k (get_or tables k 0) 0 inside), are);
    }
      where
        still : {t : ℕ} → IsMissedTold t seen least → IsMissedTold t seen (least ++ missed ∷ [])
        still told = record {
          missed = told.missed;
          are = told.are;
          told = elim told.told [
            | inl clash ↦ inl clash
            | inr (less, there, is) ↦ inr (less, Contains-append_left least (missed ∷ []) less there, is)
          ];
        }

  pub all_told : (count : ℕ) (least : List Missed) → length tables ≤ count → AreLeastBefore tables seen count least
      → (t : ℕ) → Contains tables t → IsMissedTold t seen least
  all_told count least past are t (k, within, at) =
      let same : get_or tables k 0 ≡ t = get_or_default tables k 0 t within ∙ at in
      subst (λ u. IsMissedTold u seen least) same (are.told k (omega (arith, within, past)))

-- ---- the points of the first states
pub record ArePointsBefore (c : CodedGraph) (z : ℕ) (places : Places) (count : ℕ) (at : List ℕ) (seen : ℕ) : Type 0 where
  pub count_is : length at ≡ count
  pub each : (s : ℕ) → s < count → get_or at s 0 ≡ point_of c z places s
  pub small : All (λ m. m < table_codes) at
  pub those : (m : ℕ) → (bit seen m ≡ true) ↔ ((s : ℕ) × (s < count) × (point_of c z places s ≡ m))

module _ (c : CodedGraph) (z : ℕ) (places : Places) where
  pub one_point : (s point : ℕ) (at next : List ℕ) (seen more : ℕ) → ArePointsBefore c z places s at seen
      → point ≡ point_of c z places s → point < table_codes → next ≡ at ++ point ∷ [] → IsSet seen point true more
      → ArePointsBefore c z places (s + 1) next more
  one_point s point at next seen more before is low next_is set = subst (λ ps. ArePointsBefore c z places (s + 1) ps more)
      (sym next_is) record {
        count_is = length_push at point ∙ ap (λ n. n + 1) before.count_is;
        each = each;
        small = All-push (λ m. m < table_codes) at point before.small low;
        those = those;
      }
    where
      each : (t : ℕ) → t < s + 1 → get_or (at ++ point ∷ []) t 0 ≡ point_of c z places t
      each t within = elim (eqb_tells t s) [
        | inl same ↦ rw same.1 (get_or_push at point 0 s before.count_is ∙ is)
        | inr other ↦ (
            let not_last = other.1 in
            let earlier : t < s = grind (arith, within, not_last) in
            get_or_append_left at (point ∷ []) 0 t (omega (arith, earlier, before.count_is)) ∙ before.each t earlier)
      ]

      those : (m : ℕ) → (bit more m ≡ true) ↔ ((t : ℕ) × (t < s + 1) × (point_of c z places t ≡ m))
      those m = (found, there)
        where
          found : bit more m ≡ true → (t : ℕ) × (t < s + 1) × (point_of c z places t ≡ m)
          found has = elim (eqb_tells m point) [
            | inl same ↦ (s, omega arith, sym is ∙ sym same.1)
            | inr other ↦ (
                let (t, earlier, value) = (before.those m).0 (sym (set.others m other.1) ∙ has) in
                (t, omega (arith, earlier), value))
          ]

          there : (t : ℕ) × (t < s + 1) × (point_of c z places t ≡ m) → bit more m ≡ true
          there (t, within, value) = elim (eqb_tells m point) [
            | inl same ↦ ap (bit more) same.1 ∙ set.there
            | inr other ↦ set.others m other.1 ∙ (before.those m).1 (t, earlier other.1, value)
          ]
            where
              earlier : m ≢ point → t < s
              earlier other = elim (eqb_tells t s) [
                | inl last ↦ absurd (other (sym value ∙ ap (point_of c z places) last.1 ∙ sym is))
                | inr before_last ↦ (let not_last = before_last.1 in grind (arith, within, not_last))
              ]

  pub all_points : (count : ℕ) (points : Points) → c.graph.states ≤ count → count ≤ c.graph.states
      → ArePointsBefore c z places count points.at.items points.seen → ArePoints c z places points
  all_points count points past within are =
      let same : count ≡ c.graph.states = omega (arith, past, within) in
      let all = subst (λ n. ArePointsBefore c z places n points.at.items points.seen) same are in
      record { count = all.count_is; each = all.each; small = all.small; seen = all.those }

-- ---- tables that read a place
-- of the first tables, so many, those that aren't blind to the place are there, and no others
pub record AreReadBefore (tables : List ℕ) (place count : ℕ) (read : List ℕ) : Type 0 where
  pub within : (t : ℕ) → Contains read t → Contains tables t
  pub others : (k : ℕ) → k < count → Contains read (get_or tables k 0) ⊎ IsBlind (get_or tables k 0) place

module _ (tables : List ℕ) (place : ℕ) where
  pub none_read : AreReadBefore tables place 0 []
  none_read = record {
    within = λ t (k, within, at). absurd (omega (arith, within));
    others = λ k within. absurd (omega (arith, within));
  }

  pub not_read : (k : ℕ) (read : List ℕ) → AreReadBefore tables place k read → IsBlind (get_or tables k 0) place
      → AreReadBefore tables place (k + 1) read
  not_read k read before blind = record {
    within = before.within;
    others = λ j low. elim (eqb_tells j k) [
      | inl same ↦ inr (subst (λ i. IsBlind (get_or tables i 0) place) (sym same.1) blind)
      | inr other ↦ (let not_last = other.1 in before.others j (grind (arith, low, not_last)))
    ];
  }

  pub is_read : (k : ℕ) (read more : List ℕ) → k < length tables → AreReadBefore tables place k read
      → more ≡ read ++ get_or tables k 0 ∷ [] → AreReadBefore tables place (k + 1) more
  is_read k read more inside before more_is = subst (AreReadBefore tables place (k + 1)) (sym more_is) record {
    within = λ t there. elim (Contains-push_cases read (get_or tables k 0) t there) [
      | inl earlier ↦ before.within t earlier
      | inr last ↦ subst (Contains tables) last (k, inside, get_or_default tables k (get_or tables k 0) 0 inside)
    ];
    others = λ j low. elim (eqb_tells j k) [
      | inl same ↦ inl (subst (λ i. Contains (read ++ get_or tables k 0 ∷ []) (get_or tables i 0)) (sym same.1)
          (Contains-push read (get_or tables k 0)))
      | inr other ↦ earlier j (let not_last = other.1 in grind (arith, low, not_last))
    ];
  }
    where
      earlier : (j : ℕ) → j < k → Contains (read ++ get_or tables k 0 ∷ []) (get_or tables j 0)
          ⊎ IsBlind (get_or tables j 0) place
      earlier j low = elim (before.others j low) [
        | inl there ↦ inl (Contains-append_left read (get_or tables k 0 ∷ []) (get_or tables j 0) there)
        | inr blind ↦ inr blind
      ]

  pub all_read : (count : ℕ) (read : List ℕ) → length tables ≤ count → AreReadBefore tables place count read
      → (t : ℕ) → Contains tables t → Contains read t ⊎ IsBlind t place
  all_read count read past are t (k, within, at) =
      let same : get_or tables k 0 ≡ t = get_or_default tables k 0 t within ∙ at in
      subst (λ u. Contains read u ⊎ IsBlind u place) same (are.others k (omega (arith, within, past)))
