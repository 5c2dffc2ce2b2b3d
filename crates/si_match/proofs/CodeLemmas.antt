-- Codes as far as some of the signals go, and the signals that determine a next value.
use Rattle.std.proofs.Common.{◌≡◌, ℕ, suc, ◌⊎◌, ◌+◌, ◌-◌, ◌<◌, ◌≤◌, ◌&&◌, ◌||◌, ◌↔◌, not, Bool, true, false, List, []}
use Rattle.std.proofs.Common.{◌∷◌, ◌++◌, length, map, take, get_or, bit_and, if◌then◌else◌, Contains, Result}
use Rattle.std.proofs.Common.{Ok, Err, refl, sym, ap, ◌∙◌, arith, inl, inr, subst}
use Rattle.std.specs.List.{list_all}
use Rattle.std.proofs.lemmas.Bool.{true≢false, eq-eqb}
use Rattle.std.proofs.lemmas.Bool.Decides.{eqb_tells}
use Rattle.std.proofs.lemmas.List.Elements.{Contains-push, Contains-push_cases, Contains-append_left}
use Rattle.std.proofs.lemmas.List.Sums.{list_all-from_AllPass}
use Rattle.std.proofs.lemmas.Nat.{and_assoc}
use mathlib.Core.Bool.{beq}
use Rattle.si_base.proofs.BitFacts.{same_codes, flip-same, flip-other, bit-and}
use Rattle.si_base.proofs.GraphSteps.{beq-refl}
use Rattle.si_base.specs.Bits.{bit, flip}
use Rattle.si_base.specs.Codes.{CodedGraph, code, next_value}
use Rattle.std.specs.Ordering.{nat_cmp}
use Rattle.std.specs.List.Sorted.{IsBinarySearchResult, IsNonDecreasing}
use Rattle.std.specs.Result.{is_ok}
use Rattle.std.proofs.lemmas.List.Sorted.{searched}
use Rattle.std.proofs.lemmas.List.{get_or_default, take_all}
use Rattle.si_graph.proofs.ListMembers.{Contains-map, Contains-from_map}
use Rattle.si_cube.specs.Order.{HaveSame}
use Rattle.si_match.specs.Loops.Codes.{AreCodes, AreProjected}
use Rattle.si_match.specs.Loops.Dropping.{AreTried}
use Rattle.si_match.specs.Fit.{states_of}
use Rattle.si_match.specs.Support.{agree, determines, support_by_drops, support_of}
use Rattle.si_match.proofs.StateLemmas.{state_at, states_are, one_fails}

-- the values of these signals in the codes of the first states, so many
abbrev pub CodesBefore : CodedGraph → ℕ → Bool → ℕ → ℕ → List ℕ → Type 0
CodesBefore c z value signals count codes =
    (k : ℕ) → Contains codes k ↔ ((s : ℕ) × (s < count) × (next_value c s z ≡ value) × (bit_and (code c s) signals ≡ k))

-- the signals before the i-th have been tried, and what the codes have of those that are left
pub record InSupport (c : CodedGraph) (z i signals : ℕ) (on off : List ℕ) : Type 0 where
  pub tried : AreTried c z i signals
  pub on_are : AreCodes c z true signals on
  pub off_are : AreCodes c z false signals off

-- ---- state after state
module _ (c : CodedGraph) (z : ℕ) (value : Bool) (signals : ℕ) where
  pub passed_over : (count : ℕ) (codes : List ℕ) → CodesBefore c z value signals count codes
      → (next_value c count z ≡ value → ⊥)
      → CodesBefore c z value signals (count + 1) codes
  passed_over count codes so_far other k = (
    λ there. (let (s, within, next, is) = (so_far k).0 there in (s, omega (arith, within), next, is)),
    λ (s, within, next, is). (so_far k).1 (s, earlier s within next, next, is),
  )
    where
      earlier : (s : ℕ) → s < count + 1 → next_value c s z ≡ value → s < count
      earlier s within next = elim (eqb_tells s count) [
        | inl same ↦ absurd (other (subst (λ n. next_value c n z ≡ value) same.1 next))
        | inr different ↦ (let not_last = different.1 in grind (arith, within, not_last))
      ]

  pub added : (count m : ℕ) (codes more : List ℕ) → CodesBefore c z value signals count codes
      → next_value c count z ≡ value
      → m ≡ bit_and (code c count) signals → more ≡ codes ++ m ∷ [] → CodesBefore c z value signals (count + 1) more
  added count m codes more so_far next is pushed k = (
    λ there. elim (Contains-push_cases codes m k (subst (λ xs. Contains xs k) pushed there)) [
      | inl before ↦ (let (s, within, next_s, is_s) = (so_far k).0 before in (s, omega (arith, within), next_s, is_s))
      | inr last ↦ (count, omega arith, next, sym is ∙ last)
    ],
    λ (s, within, next_s, is_s). subst (λ xs. Contains xs k) (sym pushed) (elim (eqb_tells s count) [
      | inl same ↦ subst (λ x. Contains (codes ++ m ∷ []) x) (is ∙ ap (λ n. bit_and (code c n) signals) (sym same.1)
          ∙ is_s) (Contains-push codes m)
      | inr different ↦ (let not_last = different.1 in Contains-append_left codes (m ∷ []) k ((so_far k).1 (
        s,
        grind
            (arith, within, not_last),
        next_s,
        is_s,
      )))
    ]),
  )

-- ---- codes that are cut further
pub cut_further : (c : CodedGraph) (z : ℕ) (value : Bool) (signals fewer : ℕ) (codes part : List ℕ)
    → AreCodes c z value signals codes
    → AreProjected codes fewer part → bit_and signals fewer ≡ fewer → AreCodes c z value fewer part
cut_further c z value signals fewer codes part are projected within k = (
  λ there.
      (let (m, in_codes, is) = (projected k).0 there in
      let (s, inside, next, is_m) = (are m).0 in_codes in
      (s, inside, next, cut s ∙ ap (λ n. bit_and n fewer) is_m ∙ is)),
  λ (s, inside, next, is). (projected k).1 (
    bit_and (code c s) signals,
    (are (bit_and (code c s) signals)).1
        (s, inside, next, refl),
    sym (cut s) ∙ is,
  ),
)
  where
    cut : (s : ℕ) → bit_and (code c s) fewer ≡ bit_and (bit_and (code c s) signals) fewer
    cut s = ap (bit_and (code c s)) (sym within) ∙ sym (and_assoc fewer (code c s) signals)

pub fewer_within : (signals i : ℕ) → bit signals i ≡ true → bit_and signals (flip signals i) ≡ flip signals i
fewer_within signals i there = same_codes _ _ (λ j. bit-and signals (flip signals i) j ∙ by_signal j)
  where
    twice : (b : Bool) → (b && b) ≡ b
    twice true = refl
    twice false = refl

    by_signal : (j : ℕ) → (bit signals j && bit (flip signals i) j) ≡ bit (flip signals i) j
    by_signal j = elim (eqb_tells j i) [
      | inl same ↦ rw (same.1, flip-same signals i, there) refl
      | inr different ↦ rw (flip-other signals i j different.1) (twice (bit signals j))
    ]

-- ---- signals that determine the next value
pub all_from : (c : CodedGraph) (test : ℕ × ℕ → Bool) → ((s : ℕ) → s < length c.codes → test (s, code c s) ≡ true)
    → list_all test (states_of c) ≡ true
all_from c test each = list_all-from_AllPass test (states_of c)
    (λ k d inside. (let within : k < length c.codes = rw states_are at inside in ap test (state_at c k d within)
    ∙ each k within))

module _ (c : CodedGraph) (z signals : ℕ) where
  -- states with the same values have the same next value
  pub states_determine : ((s t : ℕ) → s < length c.codes → t < length c.codes
      → bit_and (code c s) signals ≡ bit_and (code c t) signals → next_value c s z ≡ next_value c t z)
      → determines c z signals ≡ true
  states_determine same_next = all_from c _ (λ s inside_s. all_from c _ (λ t inside_t. by_agree s t inside_s inside_t
      (agree signals (code c s) (code c t)) refl))
    where
      by_agree : (s t : ℕ) → s < length c.codes → t < length c.codes → (b : Bool)
          → agree signals (code c s) (code c t) ≡ b → (not b || beq (next_value c s z) (next_value c t z)) ≡ true
      by_agree s t inside_s inside_t false e = refl
      by_agree s t inside_s inside_t true e = elim (eqb_tells (bit_and (code c s) signals)
          (bit_and (code c t) signals)) [
            | inl same ↦ rw (same_next s t inside_s inside_t same.1) (beq-refl (next_value c t z))
            | inr other ↦ absurd (true≢false (sym e ∙ other.0))
          ]

  -- two states with the same values have different next values
  pub states_differ : (s t : ℕ) → s < length c.codes → t < length c.codes
      → bit_and (code c s) signals ≡ bit_and (code c t) signals → (next_value c s z ≡ next_value c t z → ⊥)
      → determines c z signals ≡ false
  states_differ s t inside_s inside_t same_values differ =
      let same : agree signals (code c s) (code c t) ≡ true = eq-eqb _ _ same_values in
      let fails : (not (agree signals (code c s) (code c t))
      || beq (next_value c s z) (next_value c t z)) ≡ false =
      rw same (unequal (next_value c s z) (next_value c t z) differ) in
      one_fails c (λ p. list_all (λ q. not (agree signals p.1 q.1)
      || beq (next_value c p.0 z) (next_value c q.0 z)) (states_of c)) s inside_s
      (one_fails c (λ q. not (agree signals (code c s) q.1)
      || beq (next_value c s z) (next_value c q.0 z)) t inside_t fails)
    where
      unequal : (a b : Bool) → (a ≡ b → ⊥) → beq a b ≡ false
      unequal true true other = absurd (other refl)
      unequal true false other = refl
      unequal false true other = refl
      unequal false false other = absurd (other refl)

module _ (c : CodedGraph) (z signals : ℕ) (on off : List ℕ) (on_are : AreCodes c z true signals on)
    (off_are : AreCodes c z false signals off) where
  pub apart_determines : ((k : ℕ) → Contains on k → Contains off k → ⊥) → determines c z signals ≡ true
  apart_determines apart = states_determine c z signals (λ s t inside_s inside_t same. same_next s t inside_s inside_t
      same (next_value c s z) (next_value c t z) refl refl)
    where
      same_next : (s t : ℕ) → s < length c.codes → t < length c.codes
          → bit_and (code c s) signals ≡ bit_and (code c t) signals
          → (a b : Bool) → next_value c s z ≡ a → next_value c t z ≡ b → a ≡ b
      same_next s t inside_s inside_t same true true ns nt = refl
      same_next s t inside_s inside_t same false false ns nt = refl
      same_next s t inside_s inside_t same true false ns nt =
          absurd (apart (bit_and (code c t) signals) ((on_are _).1 (s, inside_s, ns, same)) ((off_are _).1
          (t, inside_t, nt, refl)))
      same_next s t inside_s inside_t same false true ns nt =
          absurd (apart (bit_and (code c s) signals) ((on_are _).1 (t, inside_t, nt, sym same)) ((off_are _).1
          (s, inside_s, ns, refl)))

  pub meet_determines_not : (k : ℕ) × Contains on k × Contains off k → determines c z signals ≡ false
  meet_determines_not (k, in_on, in_off) =
      let (s, inside_s, ns, is_s) = (on_are k).0 in_on in
      let (t, inside_t, nt, is_t) = (off_are k).0 in_off in
      states_differ c z signals s t inside_s inside_t (is_s ∙ sym is_t)
      (λ equal. true≢false (sym ns ∙ equal ∙ nt))

-- ---- two lists of codes tell whether signals determine the next value
module _ (c : CodedGraph) (z signals : ℕ) (on off sorted : List ℕ) (on_are : AreCodes c z true signals on)
    (off_are : AreCodes c z false signals off) (same : HaveSame sorted off) where
  sorted_are : AreCodes c z false signals sorted
  sorted_are k = (λ there. (off_are k).0 ((same k).0 there), λ state. (same k).1 ((off_are k).1 state))

  pub told_by_lists : (met : Bool)
      → (met ≡ true → (k : ℕ) × Contains on k × Contains sorted k)
      → (met ≡ false → (k : ℕ) → Contains on k → Contains sorted k → ⊥) → not met ≡ determines c z signals
  told_by_lists true meet apart = sym (meet_determines_not c z signals on sorted on_are sorted_are (meet refl))
  told_by_lists false meet apart = sym (apart_determines c z signals on sorted on_are sorted_are (apart refl))

-- ---- signal after signal
module _ (c : CodedGraph) (z i signals : ℕ) (so_far : AreTried c z i signals)
    (inside : i < length c.graph.signals) where
  told_step : (b : Bool) → determines c z (flip signals i) ≡ b
      → support_by_drops c z (length c.graph.signals - (i + 1)) (i + 1) (if b then flip signals i else signals)
      ≡ support_of c z
  told_step b is =
      let e : length c.graph.signals - i ≡ suc (length c.graph.signals - (i + 1)) = omega arith in
      rw (← is) (rw e at so_far.told)

  pub tried_kept : determines c z (flip signals i) ≡ false → AreTried c z (i + 1) signals
  tried_kept needed = record {
    told = told_step false needed;
    later = λ j low high. so_far.later j (omega (arith, low)) high;
  }

  pub tried_dropped : determines c z (flip signals i) ≡ true → AreTried c z (i + 1) (flip signals i)
  tried_dropped needless = record {
    told = told_step true needless;
    later = λ j low high. flip-other signals i j (λ same. omega (arith, low, same))
        ∙ so_far.later j (omega (arith, low)) high;
  }

pub tried_all : (c : CodedGraph) (z i signals : ℕ) → length c.graph.signals ≤ i → AreTried c z i signals
    → signals ≡ support_of c z
tried_all c z i signals past all = let e : length c.graph.signals - i ≡ 0 = omega arith in rw e at all.told

module _ (c : CodedGraph) (z i signals : ℕ) (on off : List ℕ) (so_far : InSupport c z i signals on off)
    (inside : i < length c.graph.signals) where
  pub in_kept : determines c z (flip signals i) ≡ false → InSupport c z (i + 1) signals on off
  in_kept needed = record {
    tried = tried_kept c z i signals so_far.tried inside needed;
    on_are = so_far.on_are;
    off_are = so_far.off_are;
  }

  pub in_dropped : (on2 off2 : List ℕ) → AreCodes c z true (flip signals i) on2
      → AreCodes c z false (flip signals i) off2
      → determines c z (flip signals i) ≡ true → InSupport c z (i + 1) (flip signals i) on2 off2
  in_dropped on2 off2 on_are off_are needless = record {
    tried = tried_dropped c z i signals so_far.tried inside needless;
    on_are = on_are;
    off_are = off_are;
  }

pub in_end : (c : CodedGraph) (z i signals : ℕ) (on off : List ℕ) → length c.graph.signals ≤ i
    → InSupport c z i signals on off → signals ≡ support_of c z
in_end c z i signals on off past all = tried_all c z i signals past all.tried

-- ---- searching
pub not_found : (xs : List ℕ) (x : ℕ) (r : Result ℕ ℕ) → IsBinarySearchResult (λ y. nat_cmp y x) xs r
    → IsNonDecreasing xs → is_ok r ≡ false
    → Contains xs x → ⊥
not_found xs x (Ok i) answer rising none there = true≢false none
not_found xs x (Err i) answer rising none (k, within, at) =
    let (bound, below, above) = searched xs x (Err i) answer (λ a b below within. rising a b 0 below within) in
    let here : get_or xs k 0 ≡ x = get_or_default xs k 0 x within ∙ at in
    elim (side k i) [
      | inl before ↦ (let less = below k before in omega (arith, less, here))
      | inr behind ↦ (let more = above k behind within in omega (arith, more, here))
    ]
  where
    side : (k i : ℕ) → (k < i) ⊎ (i ≤ k)
    side k i = grind arith

-- no code before the next is in the other list
pub none_so_far : (one other : List ℕ) (i x : ℕ) → ((j : ℕ) → j < i → Contains other (get_or one j 0) → ⊥)
    → i < length one → x ≡ get_or one i x
    → (Contains other x → ⊥) → (j : ℕ) → j < i + 1 → Contains other (get_or one j 0) → ⊥
none_so_far one other i x before inside at none j within there = elim (eqb_tells j i) [
  | inl same ↦ none (subst (Contains other) (ap (λ n. get_or one n 0) same.1 ∙ get_or_default one i 0 x inside
      ∙ sym at) there)
  | inr different ↦ (let not_last = different.1 in before j (grind (arith, within, not_last)) there)
]

pub none_at_all : (one other : List ℕ) (i : ℕ) → ((j : ℕ) → j < i → Contains other (get_or one j 0) → ⊥)
    → length one ≤ i
    → (k : ℕ) → Contains one k → Contains other k → ⊥
none_at_all one other i before past k (j, within, at) there =
    before j (omega (arith, past, within)) (subst (Contains other) (sym at ∙ get_or_default one j k 0 within) there)

-- ---- the list that was made
pub projected_are : (codes made part : List ℕ) (i signals : ℕ) → made ≡ map (λ k. bit_and k signals) (take i codes)
    → length codes ≤ i → HaveSame part made
    → AreProjected codes signals part
projected_are codes made part i signals is past same k =
    let all : made ≡ map (λ m. bit_and m signals) codes = is
    ∙ ap (map (λ m. bit_and m signals)) (take_all i codes past) in (
      λ there. Contains-from_map (λ m. bit_and m signals) codes k (subst (λ xs. Contains xs k) all ((same k).0 there)),
      λ (m, there, e). (same k).1 (subst (λ xs. Contains xs k) (sym all) (subst (Contains (map
          (λ n. bit_and n signals) codes)) e (Contains-map (λ n. bit_and n signals) codes m there))),
    )

-- ---- tests of values
pub differs : (a b v : Bool) → a ≡ v → not (beq a b) ≡ true → v ≡ b → ⊥
differs a b v is other same =
    let equal : beq a b ≡ true = rw (is ∙ same) (beq-refl b) in
    true≢false (sym other ∙ ap not equal)

pub is_same : (a b v : Bool) → a ≡ v → not (beq a b) ≡ false → v ≡ b
is_same a b v is same = sym is ∙ by_bits a b same
  where
    by_bits : (a b : Bool) → not (beq a b) ≡ false → a ≡ b
    by_bits true true e = refl
    by_bits true false e = absurd (true≢false e)
    by_bits false true e = absurd (true≢false e)
    by_bits false false e = refl

-- ---- the loop over the signals
module _ (c : CodedGraph) (z i signals fewer : ℕ) (on off one other on2 off2 : List ℕ)
    (so_far : InSupport c z i signals on off)
    (inside : i < length c.graph.signals) (fewer_is : fewer ≡ flip signals i) (one_is : one ≡ on) (other_is : other
    ≡ off)
    (on_cut : AreProjected one fewer on2) (off_cut : AreProjected other fewer off2) where
  within : bit_and signals (flip signals i) ≡ flip signals i
  within = fewer_within signals i (so_far.tried.later i (omega arith) inside)

  on2_are : AreCodes c z true (flip signals i) on2
  on2_are = cut_further c z true signals (flip signals i) on on2 so_far.on_are (rw (one_is, fewer_is) at on_cut) within

  off2_are : AreCodes c z false (flip signals i) off2
  off2_are = cut_further c z false signals (flip signals i) off off2 so_far.off_are (rw
      (other_is, fewer_is) at off_cut) within

  -- the two lists meet: the signal is kept
  pub signal_kept : (k : ℕ) × Contains on2 k × Contains off2 k → InSupport c z (i + 1) signals on off
  signal_kept met = in_kept c z i signals on off so_far inside (meet_determines_not c z
      (flip signals i) on2 off2 on2_are off2_are met)

  -- they don't: it is dropped
  pub signal_dropped : ((k : ℕ) → Contains on2 k → Contains off2 k → ⊥) → InSupport c z (i + 1) fewer on2 off2
  signal_dropped apart = rw fewer_is (in_dropped c z i signals on off so_far inside on2 off2 on2_are off2_are
      (apart_determines c z (flip signals i) on2 off2 on2_are off2_are apart))
