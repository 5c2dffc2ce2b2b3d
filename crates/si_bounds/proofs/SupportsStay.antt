-- What an insertion makes of the support of a signal none of whose arcs waits.
use Rattle.std.proofs.Common.{◌≡◌, ◌≢◌, ℕ, zero, suc, ◌<◌, ◌⊎◌, Bool, true, false, List}
use Rattle.std.proofs.Common.{length, slice_get, Some, bit_and, refl, sym, ap, ◌∙◌, arith, inl, inr, eq-eqb}
use Rattle.std.proofs.Common.{below_more}
use Rattle.std.proofs.lemmas.Bool.{cases_Bool, cases_lt, true≢false}
use Rattle.std.proofs.lemmas.Bool.Decides.{eqb_tells}
use Rattle.std.proofs.lemmas.List.{get_or_past}
use Rattle.si_base.specs.Bits.{bit}
use Rattle.si_base.specs.Codes.{CodedGraph, IsCoded, code, next_value}
use Rattle.si_base.specs.Graph.{StateGraph}
use Rattle.si_base.specs.Sets.{IsIn, IsSubset, is_in}
use Rattle.si_base.specs.declared.graph.Signal.{Signal}
use Rattle.si_insert.specs.declared.partition.Class.{Class}
use Rattle.si_insert.specs.declared.partition.Class.TheVariants.{Low, Rising, High, Falling}
use Rattle.si_insert.specs.Partition.{class_of, IsLawful}
use Rattle.si_insert.specs.Insertion.{Copy, IsCopy, IsInsertedGraph, coded, entry, has_copy}
use Rattle.si_insert.proofs.InsertionCopies.{copy, copy_at, placed}
use Rattle.si_insert.proofs.InsertionProper.{code_at, new_bit}
use Rattle.si_insert.proofs.PartitionClasses.{entry_there}
use Rattle.si_match.specs.Support.{determines}
use Rattle.si_match.proofs.CodeLemmas.{states_determine, states_differ}
use Rattle.si_match.proofs.DroppingLemmas.{agree_by_bits, bits_of_agree, next_by, same_by_bits}
use Rattle.si_bounds.specs.declared.supports.Group.{Group}
use Rattle.si_bounds.specs.Loops.Supports.{HasAll, IsGroup, IsSeparated}
use Rattle.si_bounds.specs.Loops.Waiting.{NeverWaits}
use Rattle.si_bounds.proofs.WaitingFits.{given_bit, same_next}

-- ---- sets of states
-- a set is in another, or has a state that isn't
within_or_not : (one other : List Bool) → IsSubset one other ⊎ ((s : ℕ) × IsIn one s × (IsIn other s → ⊥))
within_or_not one other = elim (below (length one)) [
  | inl all ↦ inl (λ s there. all s (inside s there) there)
  | inr some ↦ inr some
]
  where
    inside : (s : ℕ) → IsIn one s → s < length one
    inside s there = elim (cases_lt s (length one)) [
      | inl low ↦ low
      | inr past ↦ absurd (true≢false (sym there ∙ get_or_past one s false past))
    ]

    below : (k : ℕ) → ((s : ℕ) → s < k → IsIn one s → IsIn other s) ⊎ ((s : ℕ) × IsIn one s × (IsIn other s → ⊥))
    below zero = inl (λ s low. absurd (omega (arith, low)))
    below (suc k) = elim (below k) [
      | inr some ↦ inr some
      | inl before ↦ elim (cases_Bool (is_in other k)) [
        | inl there ↦ inl (more before (λ here. there))
        | inr absent ↦ elim (cases_Bool (is_in one k)) [
          | inl here ↦ inr (k, here, λ there. true≢false (sym there ∙ absent))
          | inr none ↦ inl (more before (λ here. absurd (true≢false (sym here ∙ none))))
        ]
      ]
    ]
      where
        more : ((s : ℕ) → s < k → IsIn one s → IsIn other s) → (IsIn one k → IsIn other k)
            → (s : ℕ) → s < suc k → IsIn one s → IsIn other s
        more before last s low = below_more (λ t. IsIn one t → IsIn other t) k before last s (omega (arith, low))

module _ (c : CodedGraph) (classes : List Class) (new : Signal) (copies : List Copy) (h : StateGraph)
    (is : IsCoded c) (lawful : IsLawful c.graph classes) (inserted : IsInsertedGraph c.graph classes new copies h)
    (z : ℕ) (old : z < length c.graph.signals) (never : NeverWaits c.graph classes z)
    (made : IsCoded (coded c copies h)) where
  abbrev n : ℕ
  n = length c.graph.signals

  abbrev d : CodedGraph
  d = coded c copies h

  -- ---- copies and their states
  bit_there : (k : ℕ) (x : Copy) → slice_get copies k ≡ Some x → (j : ℕ) → j ≢ n
      → bit (code d k) j ≡ bit (code c x.state) j
  bit_there k x at = given_bit c classes new copies h is lawful inserted k x at

  next_there : (k : ℕ) (x : Copy) → slice_get copies k ≡ Some x → next_value d k z ≡ next_value c x.state z
  next_there k x at = same_next c classes new copies h is lawful inserted k x at z old never

  -- what determines the next value at the states determines it at the copies
  pub still_determines : (few more : ℕ) → ((j : ℕ) → bit few j ≡ true → (j ≢ n) × (bit more j ≡ true))
      → determines c z few ≡ true → determines d z more ≡ true
  still_determines few more within determined = states_determine d z more (λ k m k_in m_in same.
      (let (x, at_k, x_is) = copy_at c.graph classes new copies h k inserted (omega (arith, made.count, k_in)) in
      let (y, at_m, y_is) = copy_at c.graph classes new copies h m inserted (omega (arith, made.count, m_in)) in
      let agrees = agree_by_bits few (code c x.state) (code c y.state) (λ j there.
      sym (bit_there k x at_k j (within j there).0)
      ∙ bits_of_agree more (code d k) (code d m) j (eq-eqb _ _ same) (within j there).1
      ∙ bit_there m y at_m j (within j there).0) in
      next_there k x at_k
      ∙ next_by c z few x.state y.state determined (omega (arith, is.count, x_is.within))
      (omega (arith, is.count, y_is.within)) agrees
      ∙ sym (next_there m y at_m)))

  -- a copy of the state
  copy_of : (s : ℕ) → s < length c.codes → (k : ℕ) × (k < length d.codes)
      × (slice_get copies k ≡ Some (copy s (entry (class_of classes s))))
  copy_of s within =
      let (k, k_in, at) = placed c.graph classes new copies h (copy s (entry (class_of classes s))) inserted
      (record { within = omega (arith, is.count, within); there = entry_there (class_of classes s) }) in
      (k, omega (arith, made.count, k_in), at)

  -- and the other way round, without the new signal
  pub determined_before : (set : ℕ) → bit set n ≡ false → determines d z set ≡ true → determines c z set ≡ true
  determined_before set absent determined = states_determine c z set (λ s t s_in t_in same.
      (let (k, k_in, at_k) = copy_of s s_in in
      let (m, m_in, at_m) = copy_of t t_in in
      let x : Copy = copy s (entry (class_of classes s)) in
      let y : Copy = copy t (entry (class_of classes t)) in
      let agrees = agree_by_bits set (code d k) (code d m) (λ j there.
      bit_there k x at_k j (given j there)
      ∙ bits_of_agree set (code c s) (code c t) j (eq-eqb _ _ same) there
      ∙ sym (bit_there m y at_m j (given j there))) in
      sym (next_there k x at_k) ∙ next_by d z set k m determined k_in m_in agrees ∙ next_there m y at_m))
    where
      given : (j : ℕ) → bit set j ≡ true → j ≢ n
      given j there same = true≢false (sym there ∙ ap (bit set) same ∙ absent)

  -- ---- states that the new signal doesn't tell apart
  -- copies with one value of the new signal and the same values of these signals, but different next values
  pub record Clash (signals : ℕ) : Type 0 where
    pub value : Bool
    pub one : ℕ
    pub zero : ℕ
    pub one_copy : IsCopy c.graph classes (copy one value)
    pub zero_copy : IsCopy c.graph classes (copy zero value)
    pub same : bit_and (code c one) signals ≡ bit_and (code c zero) signals
    pub next_one : next_value c one z ≡ true
    pub next_zero : next_value c zero z ≡ false

  new_there : (k : ℕ) (x : Copy) → slice_get copies k ≡ Some x → IsCopy c.graph classes x
      → bit (code d k) n ≡ x.value
  new_there k x at x_is = ap (λ v. bit v n) (code_at c copies h k x at) ∙ new_bit c x is x_is.within

  pub clash_told : (signals set : ℕ) → Clash signals → ((j : ℕ) → j ≢ n → bit set j ≡ true → bit signals j ≡ true)
      → determines d z set ≡ false
  clash_told signals set clash within =
      let x : Copy = copy clash.one clash.value in
      let y : Copy = copy clash.zero clash.value in
      let (k, k_in, at_k) = placed c.graph classes new copies h x inserted clash.one_copy in
      let (m, m_in, at_m) = placed c.graph classes new copies h y inserted clash.zero_copy in
      let values = same_by_bits set (code d k) (code d m) (λ j there. elim (eqb_tells j n) [
        | inl last ↦ ap (bit (code d k)) last.1 ∙ new_there k x at_k clash.one_copy
            ∙ sym (ap (bit (code d m)) last.1 ∙ new_there m y at_m clash.zero_copy)
        | inr other ↦ bit_there k x at_k j other.1
            ∙ bits_of_agree signals (code c clash.one) (code c clash.zero) j (eq-eqb _ _ clash.same)
            (within j other.1 there)
            ∙ sym (bit_there m y at_m j other.1)
      ]) in
      states_differ d z set k m (omega (arith, made.count, k_in)) (omega (arith, made.count, m_in)) values
      (λ equal. true≢false (sym clash.next_one ∙ sym (next_there k x at_k) ∙ equal ∙ next_there m y at_m
      ∙ clash.next_zero))

  module _ (high low : List Bool) (all_high : HasAll classes High high) (all_low : HasAll classes Low low) where
    -- some state of the set has a copy at that value
    abbrev IsAt : List Bool → Bool → Type 0
    IsAt set b = (s : ℕ) × IsIn set s × (has_copy (class_of classes s) b ≡ true)

    not_high : (s : ℕ) → s < c.graph.states → (IsIn high s → ⊥) → has_copy (class_of classes s) false ≡ true
    not_high s within other = by_class (class_of classes s) refl
      where
        by_class : (class : Class) → class_of classes s ≡ class → has_copy class false ≡ true
        by_class Low is_low = refl
        by_class Rising rises = refl
        by_class High is_high = absurd (other (all_high s (omega (arith, lawful.count, within)) is_high))
        by_class Falling falls = refl

    not_low : (s : ℕ) → s < c.graph.states → (IsIn low s → ⊥) → has_copy (class_of classes s) true ≡ true
    not_low s within other = by_class (class_of classes s) refl
      where
        by_class : (class : Class) → class_of classes s ≡ class → has_copy class true ≡ true
        by_class Low is_low = absurd (other (all_low s (omega (arith, lawful.count, within)) is_low))
        by_class Rising rises = refl
        by_class High is_high = refl
        by_class Falling falls = refl

    -- each state has a copy
    at_some : (set : List Bool) → (s : ℕ) × IsIn set s → (b : Bool) × IsAt set b
    at_some set (s, there) = (entry (class_of classes s), (s, there, entry_there (class_of classes s)))

    at_each : (set : List Bool) → IsAt set false → IsAt set true → (b : Bool) → IsAt set b
    at_each set low_one high_one false = low_one
    at_each set low_one high_one true = high_one

    module _ (signals : ℕ) (group : Group) (is_group : IsGroup c z signals group) where
      clash_at : (b : Bool) → IsAt group.ones b → IsAt group.zeros b → Clash signals
      clash_at b (s, s_in, s_at) (t, t_in, t_at) =
          let (s_within, s_next, s_key) = (is_group.ones.each s).0 s_in in
          let (t_within, t_next, t_key) = (is_group.zeros.each t).0 t_in in
          record {
            value = b;
            one = s;
            zero = t;
            one_copy = record { within = s_within; there = s_at };
            zero_copy = record { within = t_within; there = t_at };
            same = s_key ∙ sym t_key;
            next_one = s_next;
            next_zero = t_next;
          }

      -- where not all ones are High and all zeros Low, and not the other way round
      both_ways : (IsAt group.ones false ⊎ IsAt group.zeros true) → (IsAt group.ones true ⊎ IsAt group.zeros false)
          → Clash signals
      both_ways (inl a) (inl b) =
          let (v, at) = at_some group.zeros is_group.some_zero in clash_at v (at_each group.ones a b v) at
      both_ways (inl a) (inr b) = clash_at false a b
      both_ways (inr a) (inl b) = clash_at true b a
      both_ways (inr a) (inr b) =
          let (v, at) = at_some group.ones is_group.some_one in clash_at v at (at_each group.zeros b a v)

      one_within : (s : ℕ) → IsIn group.ones s → s < c.graph.states
      one_within s there = ((is_group.ones.each s).0 there).0

      zero_within : (s : ℕ) → IsIn group.zeros s → s < c.graph.states
      zero_within s there = ((is_group.zeros.each s).0 there).0

      one_way : (IsSubset group.ones high × IsSubset group.zeros low)
          ⊎ (IsAt group.ones false ⊎ IsAt group.zeros true)
      one_way = elim (within_or_not group.ones high) [
        | inr (s, there, other) ↦ inr (inl (s, there, not_high s (one_within s there) other))
        | inl ones_high ↦ elim (within_or_not group.zeros low) [
          | inr (s, there, other) ↦ inr (inr (s, there, not_low s (zero_within s there) other))
          | inl zeros_low ↦ inl (ones_high, zeros_low)
        ]
      ]

      other_way : (IsSubset group.ones low × IsSubset group.zeros high)
          ⊎ (IsAt group.ones true ⊎ IsAt group.zeros false)
      other_way = elim (within_or_not group.ones low) [
        | inr (s, there, other) ↦ inr (inl (s, there, not_low s (one_within s there) other))
        | inl ones_low ↦ elim (within_or_not group.zeros high) [
          | inr (s, there, other) ↦ inr (inr (s, there, not_high s (zero_within s there) other))
          | inl zeros_high ↦ inl (ones_low, zeros_high)
        ]
      ]

      pub mixed_clash : (IsSeparated high low group → ⊥) → Clash signals
      mixed_clash mixed = elim one_way [
        | inl parted ↦ absurd (mixed (inl parted))
        | inr here ↦ elim other_way [
          | inl parted ↦ absurd (mixed (inr parted))
          | inr there ↦ both_ways here there
        ]
      ]
