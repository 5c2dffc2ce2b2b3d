-- The forbidden codes that matter when a signal's turn comes, in a list in ascending order.
use Rattle.std.proofs.Common.{◌≡◌, ℕ, ◌+◌, ◌-◌, ◌/◌, ◌%◌, ◌^◌, ◌<◌, ◌≤◌, ◌==◌, ltb, leb, Bool, true, false, List, []}
use Rattle.std.proofs.Common.{◌∷◌, ◌++◌, length, get_or, length-take, length-drop, take, drop, All, Contains, suc, refl}
use Rattle.std.proofs.Common.{sym, ap, subst, ◌∙◌, arith, inl, inr, not}
use Rattle.std.specs.List.Sorted.{IsNonDecreasing, IsNonDecreasingBy, IsPartitionedBy, IsPartitionPoint}
use Rattle.std.proofs.Math.Nat.{div-div-eq-div-mul, div-mul-le_self}
use Rattle.std.proofs.lemmas.Nat.{le-div}
use Rattle.std.proofs.lemmas.Bool.{cases_Bool, cases_eq, cases_lt, true≢false, false_from_ne_true, ltb-true, ltb-false}
use Rattle.std.proofs.lemmas.Bool.{leb-true, leb-false}
use Rattle.std.proofs.lemmas.List.{get_or-take, get_or-drop}
use Rattle.std.proofs.lemmas.Nat.{pow-add}
use Rattle.std.proofs.lemmas.Nat.{pow_pos}
use Rattle.std.proofs.lemmas.List.Sorted.{IsPartitionedBy-ltb, IsPartitionedBy-leb}
use Rattle.std.proofs.lemmas.List.Elements.{All-contains}
use Rattle.si_base.specs.declared.ids.Literal.{Literal}
use Rattle.si_base.specs.Bits.{bit, flip}
use Rattle.si_base.specs.Netlist.{Sum, sum_value, literal_value}
use Rattle.si_base.proofs.BitFacts.{same_codes, flip-same, flip-other}
use Rattle.si_base.proofs.GraphSteps.{beq-refl}
use Rattle.si_base.proofs.OrderAscending.{In}
use Rattle.si_base.proofs.StepCodes.{no_bit}
use Rattle.si_base.proofs.OrderLemmas.{in_contains}
use Rattle.si_base.proofs.GivenGraphUnique.{contains_from_in}
use Rattle.si_cube.specs.Literals.{full_literals}
use Rattle.si_cube.specs.Order.{values_from, DifferLastAt, HaveSame}
use Rattle.si_cube.specs.Covers.{without}
use Rattle.si_cube.specs.Needed.{needed_from, needed}
use Rattle.si_cube.specs.Rule.{covers, covers_any, is_needless_literal, is_needless_cube, grown, grown_cubes, chosen}
use Rattle.si_cube.proofs.NeededLemmas.{any_in, any_from_in, all_in, all_from_in}
use Rattle.si_cube.proofs.NeededLemmas.{in_append, in_left, in_right}
use Rattle.si_cube.proofs.CubeFacts.{full_bits, full_tells, covers_more}
use Rattle.si_cube.proofs.GrowthLemmas.{IsGrowing, growth_start, growth_drop, growth_keep, smaller_is}

-- ---- the values from a signal on
bit_from : (s code i : ℕ) → bit (values_from s code) i ≡ bit code (s + i)
bit_from s code i =
    ap (λ (n : ℕ). n % 2 == 1) (div-div-eq-div-mul code (2 ^ s) (2 ^ i)
    ∙ ap (λ (n : ℕ). code / n) (sym (pow-add 2 s i)))

-- a code that differs from another at s and at none behind it
pub flipped_from : (s k code : ℕ) → (bit k s ≡ bit code s → ⊥) → ((j : ℕ) → s < j → bit k j ≡ bit code j)
    → values_from s k ≡ flip (values_from s code) 0
flipped_from s k code apart same =
    same_codes (values_from s k) (flip (values_from s code) 0) (λ i. elim (cases_eq i 0) [
      | inl first ↦ (
          let at : s + 0 ≡ s = omega arith in
          let here : bit (values_from s k) 0 ≡ bit k s = bit_from s k 0 ∙ ap (bit k) at in
          let there : bit (values_from s code) 0 ≡ bit code s = bit_from s code 0 ∙ ap (bit code) at in
          let P : ℕ → Type 0 = λ n. bit (values_from s k) n ≡ bit (flip (values_from s code) 0) n in
          subst P (sym first) (here ∙ other_bit (bit k s) (bit code s) apart ∙ ap not (sym there)
          ∙ sym (flip-same (values_from s code) 0)))
      | inr later ↦
          bit_from s k i ∙ same (s + i) (omega arith) ∙ sym (bit_from s code i)
          ∙ sym (flip-other (values_from s code) 0 i later)
    ])
  where
    other_bit : (a b : Bool) → (a ≡ b → ⊥) → a ≡ not b
    other_bit true true apart = absurd (apart refl)
    other_bit true false apart = refl
    other_bit false true apart = refl
    other_bit false false apart = absurd (apart refl)

from_rises : (s k m : ℕ) → k ≤ m → values_from s k ≤ values_from s m
from_rises s k m le = le-div (k / 2 ^ s) m (2 ^ s) (pow_pos s) (omega (arith, div-mul-le_self k (2 ^ s), le))

-- ---- the codes that are sought lie side by side
rising : (codes : List ℕ) (s : ℕ) → IsNonDecreasing codes → IsNonDecreasingBy (values_from s) codes
rising codes s order = λ i j d le within. from_rises s (get_or codes i d) (get_or codes j d) (order i j d le within)

pub low_cut : (codes : List ℕ) (s sought : ℕ) → IsNonDecreasing codes
    → IsPartitionedBy (λ k. ltb (values_from s k) sought) codes
low_cut codes s sought order = IsPartitionedBy-ltb (values_from s) codes sought (rising codes s order)

pub high_cut : (codes : List ℕ) (s sought : ℕ) → IsNonDecreasing codes
    → IsPartitionedBy (λ k. leb (values_from s k) sought) codes
high_cut codes s sought order = IsPartitionedBy-leb (values_from s) codes sought (rising codes s order)

pub last_between : (codes : List ℕ) (code s sought low count : ℕ) → sought ≡ flip (values_from s code) 0
    → low ≤ length codes → count ≤ length (drop low codes)
    → IsPartitionPoint (λ k. ltb (values_from s k) sought ≡ true) (λ k. ltb (values_from s k) sought ≡ false) codes low
    → IsPartitionPoint (λ k. leb (values_from s k) sought ≡ true) (λ k. leb (values_from s k) sought ≡ false)
    (drop low codes) count
    → DifferLastAt codes code s (take count (drop low codes))
last_between codes code s sought low count is low_in count_in cut_low cut_high =
    let left : length (drop low codes) + low ≡ length codes = omega (arith, length-drop low codes) in
    let taken : length (take count (drop low codes)) ≡ count = omega (arith, length-take count (drop low codes)) in
    record {
      exactly = λ k. (
        λ h. (
            let j : ℕ = h.0 in
            let here : j < count = omega (arith, h.1, taken) in
            let at_drop : get_or (drop low codes) j k ≡ k = sym (get_or-take count (drop low codes) j k here) ∙ h.2 in
            let within : low + j < length codes = omega arith in
            let at : get_or codes (low + j) k ≡ k = sym (get_or-drop low codes j k) ∙ at_drop in
            let not_less = ltb-false _ _ (rw at at (cut_low.1 (low + j) k (omega arith) within)) in
            let not_more = leb-true _ _ (rw at_drop at (cut_high.0 j k (omega arith) here)) in
            let equal : values_from s k ≡ sought = omega (arith, not_less, not_more) in
            ((low + j, within, at), equal ∙ is)),
        λ h. (
            let j : ℕ = h.0.0 in
            let within : j < length codes = h.0.1 in
            let same : values_from s k ≡ sought = h.1 ∙ sym is in
            let above : low ≤ j = elim (cases_lt j low) [
              | inl lt ↦
                  (let less = ltb-true _ _ (rw h.0.2 at (cut_low.0 j k (omega arith) lt)) in
                  absurd (omega (arith, less, same)))
              | inr ge ↦ ge
            ] in
            let moved : low + (j - low) ≡ j = omega arith in
            let at_drop : get_or (drop low codes) (j - low) k ≡ k =
            get_or-drop low codes (j - low) k ∙ ap (λ (n : ℕ). get_or codes n k) moved ∙ h.0.2 in
            let below : j - low < count = elim (cases_lt (j - low) count) [
              | inl lt ↦ lt
              | inr ge ↦
                  (let more = leb-false _ _ (rw at_drop at (cut_high.1 (j - low) k ge (omega arith))) in
                  absurd (omega (arith, more, same)))
            ] in
            (j - low, omega (arith, taken), get_or-take count (drop low codes) (j - low) k below ∙ at_drop)),
      );
    }

-- ---- they alone matter
-- the cube with s's literal covers what the cube without it covers, where the value at s is the code's
covered_with : (stays rest : List Literal) (s code k : ℕ) → covers (stays ++ rest) k ≡ true → bit k s ≡ bit code s
    → covers (stays ++ record { sig = s; plain = bit code s } ∷ rest) k ≡ true
covered_with stays rest s code k all same =
    all_from_in (literal_value k) (stays ++ record { sig = s; plain = bit code s } ∷ rest) (λ l here.
    elim (in_append stays (record { sig = s; plain = bit code s } ∷ rest) l here) [
      | inl left ↦ all_in (literal_value k) (stays ++ rest) all l (in_left stays rest l left)
      | inr right ↦ elim right [
        | inl is ↦ ap (literal_value k) is ∙ (rw same (beq-refl (bit code s)))
        | inr later ↦ all_in (literal_value k) (stays ++ rest) all l (in_right stays rest l later)
      ]
    ])

-- what the cube without s's literal covers differs from the code at s last
covered_last : (signals : ℕ) (forbidden : List ℕ) (code s k : ℕ) (cube : List Literal) → s < signals
    → code < 2 ^ signals → k < 2 ^ signals → In k forbidden
    → IsGrowing signals forbidden code s cube → covers_any forbidden cube ≡ false → covers (without s cube) k ≡ true
    → values_from s k ≡ flip (values_from s code) 0
covered_last signals forbidden code s k cube within fits k_fits there growing avoids covered =
    let rest : List Literal = full_literals (signals - (s + 1)) (s + 1) code in
    let all : covers (growing.stays ++ rest) k ≡ true =
    ap (λ (ls : List Literal). covers ls k) (sym (smaller_is signals forbidden code s cube growing within)) ∙ covered in
    let tail : covers rest k ≡ true =
    covers_more rest (growing.stays ++ rest) k (λ l here. in_right growing.stays rest l here) all in
    let more : signals - s ≡ suc (signals - (s + 1)) = omega arith in
    let is : cube ≡ growing.stays ++ record { sig = s; plain = bit code s } ∷ rest = rw more at growing.is in
    flipped_from s k code
    (λ same. true≢false (sym (any_from_in (covers cube) forbidden k there
    (ap (λ (ls : List Literal). covers ls k) is ∙ covered_with growing.stays rest s code k all same)) ∙ avoids))
    (λ j after. elim (cases_lt j signals) [
      | inl below ↦ full_bits (signals - (s + 1)) (s + 1) code k tail j (omega arith) (omega arith)
      | inr above ↦ no_bit k signals j k_fits above ∙ sym (no_bit code signals j fits above)
    ])

pub last_matter : (signals : ℕ) (forbidden : List ℕ) (code s : ℕ) (cube : List Literal) (part : List ℕ) → s < signals
    → code < 2 ^ signals → All (λ k. k < 2 ^ signals) forbidden
    → IsGrowing signals forbidden code s cube → covers_any forbidden cube ≡ false
    → DifferLastAt forbidden code s part → covers_any part (without s cube) ≡ covers_any forbidden (without s cube)
last_matter signals forbidden code s cube part within fits all_fit growing avoids differ =
    elim (cases_Bool (covers_any forbidden (without s cube))) [
      | inl some ↦ (
          let found = any_in (covers (without s cube)) forbidden some in
          let there = contains_from_in forbidden found.0 found.1 in
          let last =
          covered_last signals forbidden code s found.0 cube within fits
          (All-contains (λ (k : ℕ). k < 2 ^ signals) forbidden found.0 all_fit there) found.1 growing avoids found.2 in
          any_from_in (covers (without s cube)) part found.0
          (in_contains part found.0 ((differ.exactly found.0).1 (there, last))) found.2 ∙ sym some)
      | inr none ↦ false_from_ne_true (covers_any part (without s cube)) (λ some.
          let found = any_in (covers (without s cube)) part some in
          let there = ((differ.exactly found.0).0 (contains_from_in part found.0 found.1)).0 in
          true≢false (sym (any_from_in (covers (without s cube)) forbidden found.0
          (in_contains forbidden found.0 there) found.2) ∙ none)) ∙ sym none
    ]

-- a full cube covers no code but its own
pub full_avoids : (signals : ℕ) (forbidden : List ℕ) (code : ℕ) → code < 2 ^ signals
    → All (λ k. k < 2 ^ signals) forbidden → (Contains forbidden code → ⊥)
    → covers_any forbidden (full_literals signals 0 code) ≡ false
full_avoids signals forbidden code fits all_fit apart =
    false_from_ne_true (covers_any forbidden (full_literals signals 0 code)) (λ any.
    let found = any_in (covers (full_literals signals 0 code)) forbidden any in
    let there = contains_from_in forbidden found.0 found.1 in
    let same : found.0 ≡ code =
    full_tells signals code found.0 fits
    (All-contains (λ (k : ℕ). k < 2 ^ signals) forbidden found.0 all_fit there) found.2 in
    apart (subst (λ (k : ℕ). Contains forbidden k) same there))

-- a growing cube that covers none of the forbidden codes
pub record IsClear (signals : ℕ) (forbidden : List ℕ) (code s : ℕ) (cube : List Literal) : Type 0 where
  pub growing : IsGrowing signals forbidden code s cube
  pub avoids : covers_any forbidden cube ≡ false

pub clear_start : (signals : ℕ) (forbidden : List ℕ) (code : ℕ) → code < 2 ^ signals
    → All (λ k. k < 2 ^ signals) forbidden → (Contains forbidden code → ⊥)
    → IsClear signals forbidden code 0 (full_literals signals 0 code)
clear_start signals forbidden code fits all_fit apart = record {
  growing = growth_start signals forbidden code;
  avoids = full_avoids signals forbidden code fits all_fit apart;
}

pub clear_drop : (signals : ℕ) (forbidden : List ℕ) (code s : ℕ) (cube : List Literal) → s < signals
    → covers_any forbidden (without s cube) ≡ false
    → IsClear signals forbidden code s cube → IsClear signals forbidden code (s + 1) (without s cube)
clear_drop signals forbidden code s cube within fails clear =
    record { growing = growth_drop signals forbidden code s cube within fails clear.growing; avoids = fails }

pub clear_keep : (signals : ℕ) (forbidden : List ℕ) (code s : ℕ) (cube : List Literal) → s < signals
    → covers_any forbidden (without s cube) ≡ true
    → IsClear signals forbidden code s cube → IsClear signals forbidden code (s + 1) cube
clear_keep signals forbidden code s cube within holds clear =
    record { growing = growth_keep signals forbidden code s cube within holds clear.growing; avoids = clear.avoids }

-- ---- the order of the forbidden codes doesn't matter
same_any : (codes others : List ℕ) (cube : List Literal) → HaveSame codes others
    → covers_any codes cube ≡ covers_any others cube
same_any codes others cube same = elim (cases_Bool (covers_any others cube)) [
  | inl some ↦ (let found = any_in (covers cube) others some in
      any_from_in (covers cube) codes found.0
      (in_contains codes found.0 ((same found.0).1 (contains_from_in others found.0 found.1))) found.2
      ∙ sym some)
  | inr none ↦ false_from_ne_true (covers_any codes cube) (λ some.
      let found = any_in (covers cube) codes some in
      true≢false (sym (any_from_in (covers cube) others found.0
      (in_contains others found.0 ((same found.0).0 (contains_from_in codes found.0 found.1))) found.2)
      ∙ none)) ∙ sym none
]

same_needed : {A : Type 0} (n m : A → List A → Bool) (before xs : List A) → ((x : A) (ys : List A) → n x ys ≡ m x ys)
    → needed_from n before xs ≡ needed_from m before xs
same_needed n m before [] same = refl
same_needed {A} n m before (x ∷ xs) same = elim (cases_Bool (m x (before ++ xs))) [
  | inl goes ↦
      (let also : n x (before ++ xs) ≡ true = same x (before ++ xs) ∙ goes in
      rw (goes, also) (same_needed n m before xs same))
  | inr stays ↦
      (let also : n x (before ++ xs) ≡ false = same x (before ++ xs) ∙ stays in
      rw (stays, also) (ap (λ (ys : List A). x ∷ ys) (same_needed n m (before ++ x ∷ []) xs same)))
]

same_grown : (signals code : ℕ) (codes others : List ℕ) → HaveSame codes others
    → grown signals codes code ≡ grown signals others code
same_grown signals code codes others same =
    same_needed (is_needless_literal codes) (is_needless_literal others) [] (full_literals signals 0 code)
    (λ l ls. ap not (same_any codes others ls same))

pub same_cubes : (signals : ℕ) (codes others : List ℕ) (sofar : Sum) (required : List ℕ) → HaveSame codes others
    → grown_cubes signals codes sofar required ≡ grown_cubes signals others sofar required
same_cubes signals codes others sofar [] same = refl
same_cubes signals codes others sofar (k ∷ ks) same = elim (cases_Bool (sum_value k sofar)) [
  | inl there ↦ rw there (same_cubes signals codes others sofar ks same)
  | inr new ↦
      rw (new, same_grown signals k codes others same)
      (same_cubes signals codes others (sofar ++ grown signals others k ∷ []) ks same)
]

pub same_itself : (codes : List ℕ) → HaveSame codes codes
same_itself codes = λ k. (λ there. there, λ there. there)

pub same_chosen : (signals : ℕ) (required forbidden ordered : List ℕ) → HaveSame ordered forbidden
    → chosen signals (record { required = required; forbidden = ordered })
    ≡ chosen signals (record { required = required; forbidden = forbidden })
same_chosen signals required forbidden ordered same =
    ap (needed (is_needless_cube required)) (same_cubes signals ordered forbidden [] required same)
