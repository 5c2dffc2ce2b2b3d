-- What triggers tell of the support: none of them is dropped, and signals that determine the next value without
-- others let the others be dropped.
use Rattle.std.proofs.Common.{◌≡◌, ℕ, zero, suc, ◌+◌, ◌-◌, ◌<◌, ◌≤◌, ◌==◌, ◌&&◌, ◌||◌, not, Bool, true, false, bit_and}
use Rattle.std.proofs.Common.{bit_or, bit_xor, ◌⊎◌, length, if◌then◌else◌, refl, sym, ap, ◌∙◌, arith, inl, inr}
use Rattle.std.specs.List.{list_all}
use Rattle.std.proofs.lemmas.Bool.{cases_Bool, true≢false, eq-eqb, or_right}
use Rattle.std.proofs.lemmas.Bool.Decides.{eqb_tells, leb_tells}
use Rattle.std.proofs.Math.Bool.{and-true, or-false}
use mathlib.Core.Bool.{beq}
use Rattle.si_base.proofs.BitFacts.{same_codes, flip-same, flip-other, bit-or, bit-and}
use Rattle.si_base.proofs.StepCodes.{code_of_step, step_within}
use Rattle.si_base.proofs.GraphSteps.{beq-true, beq-refl}
use Rattle.si_base.specs.Bits.{bit, flip, ones, IsSet}
use Rattle.si_base.specs.Codes.{CodedGraph, IsCoded, code, next_value}
use Rattle.si_cube.proofs.LiteralLemmas.{bit-xor, bit-ones}
use Rattle.si_match.specs.Loops.Dropping.{AreTried}
use Rattle.si_match.specs.Fit.{states_of}
use Rattle.si_match.specs.Support.{agree, determines, support_by_drops, support_of}
use Rattle.si_match.specs.Triggers.{IsTrigger, AreTriggers}
use Rattle.si_match.proofs.CodeLemmas.{all_from}
use Rattle.si_match.proofs.StateLemmas.{one_fails}

-- ---- codes that agree
pub bits_of_agree : (signals a b j : ℕ) → agree signals a b ≡ true → bit signals j ≡ true → bit a j ≡ bit b j
bits_of_agree signals a b j agrees there =
    sym (cut a) ∙ ap (λ (k : ℕ). bit k j) same ∙ cut b
  where
    same : bit_and a signals ≡ bit_and b signals
    same = elim (eqb_tells (bit_and a signals) (bit_and b signals)) [
      | inl equal ↦ equal.1
      | inr other ↦ absurd (true≢false (sym agrees ∙ other.0))
    ]

    cut : (k : ℕ) → bit (bit_and k signals) j ≡ bit k j
    cut k = bit-and k signals j ∙ ap (λ (b : Bool). bit k j && b) there ∙ and-true (bit k j)

pub same_by_bits : (signals a b : ℕ) → ((j : ℕ) → bit signals j ≡ true → bit a j ≡ bit b j)
    → bit_and a signals ≡ bit_and b signals
same_by_bits signals a b same = same_codes _ _ (λ j. bit-and a signals j
    ∙ by_bit j (bit signals j) refl ∙ sym (bit-and b signals j))
  where
    by_bit : (j : ℕ) (v : Bool) → bit signals j ≡ v → (bit a j && bit signals j) ≡ (bit b j && bit signals j)
    by_bit j true there = ap (λ (v : Bool). v && bit signals j) (same j there)
    by_bit j false absent = rw absent (none (bit a j) ∙ sym (none (bit b j)))
      where
        none : (v : Bool) → (v && false) ≡ false
        none true = refl
        none false = refl

pub agree_by_bits : (signals a b : ℕ) → ((j : ℕ) → bit signals j ≡ true → bit a j ≡ bit b j) → agree signals a b ≡ true
agree_by_bits signals a b same = eq-eqb _ _ (same_by_bits signals a b same)

-- ---- all signals, and those behind one
in_ones : (i n : ℕ) → i < n → bit (ones n) i ≡ true
in_ones i n below = bit-ones n i ∙ elim (leb_tells (suc i) n) [
  | inl low ↦ low.0
  | inr up ↦ absurd (let past = up.1 in omega (arith, past, below))
]

not_in_ones : (i n : ℕ) → n ≤ i → bit (ones n) i ≡ false
not_in_ones i n above = bit-ones n i ∙ elim (leb_tells (suc i) n) [
  | inl low ↦ absurd (let below = low.1 in omega (arith, below, above))
  | inr up ↦ up.0
]

module _ (signals z count whole head : ℕ) (whole_is : whole ≡ ones count) (head_is : head ≡ ones (z + 1)) where
  added : (j : ℕ) (v w : Bool) → bit (ones count) j ≡ v → bit (ones (z + 1)) j ≡ w
      → bit (bit_or signals (bit_xor whole head)) j ≡ (bit signals j || not (beq v w))
  added j v w in_whole in_head =
      bit-or signals (bit_xor whole head) j
      ∙ ap (λ (b : Bool). bit signals j || b)
      (bit-xor whole head j ∙ rw (whole_is, head_is, in_whole, in_head) refl)

  pub all_behind : (j : ℕ) → z < j → j < count → bit (bit_or signals (bit_xor whole head)) j ≡ true
  all_behind j low high =
      added j true false (in_ones j count high) (not_in_ones j (z + 1) (omega (arith, low)))
      ∙ or_right (bit signals j) true refl

  pub same_elsewhere : z < count → (j : ℕ) → (z < j → j < count → ⊥)
      → bit (bit_or signals (bit_xor whole head)) j ≡ bit signals j
  same_elsewhere within j beyond = elim (leb_tells (suc z) j) [
    | inl past ↦ (
        let low : z < j = omega (arith, past.1) in
        let high : count ≤ j = grind (arith, low, beyond) in
        added j false false (not_in_ones j count high) (not_in_ones j (z + 1) (omega (arith, low)))
        ∙ or-false (bit signals j))
    | inr up ↦ (
        let low : j < z + 1 = omega (arith, up.1) in
        added j true true (in_ones j count (omega (arith, low, within))) (in_ones j (z + 1) low)
        ∙ or-false (bit signals j))
  ]

-- ---- signals that determine the next value
module _ (c : CodedGraph) (z : ℕ) where
  -- what the test of two states says
  abbrev tested : ℕ → ℕ × ℕ → ℕ × ℕ → Bool
  tested signals s t = not (agree signals s.1 t.1) || beq (next_value c s.0 z) (next_value c t.0 z)

  pub next_by : (signals s t : ℕ) → determines c z signals ≡ true → s < length c.codes → t < length c.codes
      → agree signals (code c s) (code c t) ≡ true → next_value c s z ≡ next_value c t z
  next_by signals s t determined inside_s inside_t agrees =
      elim (cases_Bool (beq (next_value c s z) (next_value c t z))) [
        | inl same ↦ beq-true _ _ same
        | inr differ ↦ absurd (true≢false (sym determined ∙ not_at differ))
      ]
    where
      not_at : beq (next_value c s z) (next_value c t z) ≡ false → determines c z signals ≡ false
      not_at differ =
          let fails : tested signals (s, code c s) (t, code c t) ≡ false = rw (agrees, differ) refl in
          one_fails c (λ p. list_all (tested signals p) (states_of c)) s inside_s
          (one_fails c (tested signals (s, code c s)) t inside_t fails)

  -- what fewer signals determine, more do
  pub determined_by_more : (fewer more : ℕ) → ((j : ℕ) → bit fewer j ≡ true → bit more j ≡ true)
      → determines c z fewer ≡ true → determines c z more ≡ true
  determined_by_more fewer more within determined =
      all_from c _ (λ s inside_s. all_from c _ (λ t inside_t. by_agree s t inside_s inside_t
      (agree more (code c s) (code c t)) refl))
    where
      by_agree : (s t : ℕ) → s < length c.codes → t < length c.codes → (b : Bool)
          → agree more (code c s) (code c t) ≡ b → (not b || beq (next_value c s z) (next_value c t z)) ≡ true
      by_agree s t inside_s inside_t false e = refl
      by_agree s t inside_s inside_t true e =
          let agrees = agree_by_bits fewer (code c s) (code c t)
          (λ j there. bits_of_agree more (code c s) (code c t) j e (within j there)) in
          rw (next_by fewer s t determined inside_s inside_t agrees) (beq-refl (next_value c t z))

  -- without a trigger they don't determine it
  trigger_missed : (i signals : ℕ) → IsCoded c → IsTrigger c z i → bit signals i ≡ false
      → determines c z signals ≡ false
  trigger_missed i signals is t absent = elim (cases_Bool (determines c z signals)) [
    | inl determined ↦ absurd (t.changes (next_by signals t.to t.from determined to_within from_within agrees))
    | inr not_so ↦ not_so
  ]
    where
      within : (t.from < c.graph.states) × (t.event.sig < length c.graph.signals) × (t.to < c.graph.states)
      within = step_within c.graph t.from t.event t.to is.graph_is t.step

      from_within : t.from < length c.codes
      from_within = omega (arith, is.count, within.0)

      to_within : t.to < length c.codes
      to_within = omega (arith, is.count, within.2)

      agrees : agree signals (code c t.to) (code c t.from) ≡ true
      agrees = agree_by_bits signals (code c t.to) (code c t.from) (λ j there.
          ap (λ (k : ℕ). bit k j) (code_of_step c t.from t.event t.to is t.step)
          ∙ flip-other (code c t.from) t.event.sig j
          (λ e. true≢false (sym there ∙ ap (bit signals) (e ∙ t.signal) ∙ absent)))

  -- a trigger is kept
  pub kept_when_tried : (i signals : ℕ) → IsCoded c → IsTrigger c z i → bit signals i ≡ true
      → determines c z (flip signals i) ≡ false
  kept_when_tried i signals is t there =
      trigger_missed i (flip signals i) is t (flip-same signals i ∙ ap not there)

  -- however many signals are tried
  pub trigger_stays : (count i signals j : ℕ) → IsCoded c → IsTrigger c z j → bit signals j ≡ true
      → bit (support_by_drops c z count i signals) j ≡ true
  trigger_stays zero i signals j is t there = there
  trigger_stays (suc count) i signals j is t there = elim (cases_Bool (determines c z (flip signals i))) [
    | inl needless ↦ rw needless (trigger_stays count (i + 1) (flip signals i) j is t
        (flip-other signals i j (λ e. true≢false (sym needless ∙ ap (λ (k : ℕ). determines c z (flip signals k)) (sym e)
        ∙ kept_when_tried j signals is t there)) ∙ there))
    | inr needed ↦ rw needed (trigger_stays count (i + 1) signals j is t there)
  ]

-- ---- signals that are needless beside others
-- of the signals from the i-th on, so many, left has just those that the core has, and of the others those that
-- signals has
record IsLeft (i count core signals left : ℕ) : Type 0 where
  inside : (j : ℕ) → i ≤ j → j < i + count → bit left j ≡ bit core j
  outside : (j : ℕ) → (i ≤ j → j < i + count → ⊥) → bit left j ≡ bit signals j

-- the core is among the signals, determines the next value, and has no signals but triggers among those that are
-- tried, which are all there
record IsCore (c : CodedGraph) (z i count core signals : ℕ) : Type 0 where
  determined : determines c z core ≡ true
  among : (j : ℕ) → bit core j ≡ true → bit signals j ≡ true
  all_there : (j : ℕ) → i ≤ j → j < i + count → bit signals j ≡ true
  triggers : (j : ℕ) → i ≤ j → j < i + count → bit core j ≡ true → IsTrigger c z j

module _ (c : CodedGraph) (z : ℕ) (is : IsCoded c) where
  -- those that are not in the core are dropped
  dropped_to : (count i core signals left : ℕ) → IsCore c z i count core signals → IsLeft i count core signals left
      → support_by_drops c z count i signals ≡ left
  dropped_to zero i core signals left is_core is_left =
      same_codes signals left (λ j. sym (is_left.outside j (λ low high. omega (arith, low, high))))
  dropped_to (suc count) i core signals left is_core is_left = elim (cases_Bool (bit core i)) [
    | inl kept ↦ (
        let needed = kept_when_tried c z i signals is (is_core.triggers i (omega arith) (omega arith) kept) here in
        rw needed (dropped_to count (i + 1) core signals left (core_next signals is_core.among (λ j other. refl))
        (left_next signals (at_here ∙ kept ∙ sym here) (λ j other. refl))))
    | inr needless ↦ (
        let among : (j : ℕ) → bit core j ≡ true → bit (flip signals i) j ≡ true =
        λ j there. flip-other signals i j (λ e. true≢false (sym there ∙ ap (bit core) e ∙ needless))
        ∙ is_core.among j there in
        let gone : bit (flip signals i) i ≡ false = flip-same signals i ∙ ap not here in
        rw (determined_by_more c z core (flip signals i) among is_core.determined)
        (dropped_to count (i + 1) core (flip signals i) left (core_next (flip signals i) among (flip-other signals i))
        (left_next (flip signals i) (at_here ∙ needless ∙ sym gone) (flip-other signals i))))
  ]
    where
      here : bit signals i ≡ true
      here = is_core.all_there i (omega arith) (omega arith)

      at_here : bit left i ≡ bit core i
      at_here = is_left.inside i (omega arith) (omega arith)

      core_next : (next : ℕ) → ((j : ℕ) → bit core j ≡ true → bit next j ≡ true)
          → ((j : ℕ) → (j ≡ i → ⊥) → bit next j ≡ bit signals j) → IsCore c z (i + 1) count core next
      core_next next among others = record {
        determined = is_core.determined;
        among = among;
        all_there = λ j low high. others j (λ e. omega (arith, e, low))
            ∙ is_core.all_there j (omega (arith, low)) (omega (arith, high));
        triggers = λ j low high. is_core.triggers j (omega (arith, low)) (omega (arith, high));
      }

      left_next : (next : ℕ) → bit left i ≡ bit next i → ((j : ℕ) → (j ≡ i → ⊥) → bit next j ≡ bit signals j)
          → IsLeft (i + 1) count core next left
      left_next next same others = record {
        inside = λ j low high. is_left.inside j (omega (arith, low)) (omega (arith, high));
        outside = λ j beyond. elim (eqb_tells j i) [
          | inl equal ↦ rw equal.1 same
          | inr other ↦ (
              let different = other.1 in
              is_left.outside j (λ low high. beyond (omega (arith, low, different)) (omega (arith, high)))
              ∙ sym (others j different))
        ];
      }

  -- signals are tried one part after the other
  tried_in_parts : (one two i signals : ℕ) → support_by_drops c z (one + two) i signals
      ≡ support_by_drops c z two (i + one) (support_by_drops c z one i signals)
  tried_in_parts zero two i signals =
      let none : 0 + two ≡ two = omega arith in
      let same : i + 0 ≡ i = omega arith in
      rw (none, same) refl
  tried_in_parts (suc one) two i signals =
      let more : suc one + two ≡ suc (one + two) = omega arith in
      let next : i + suc one ≡ i + 1 + one = omega arith in
      rw (more, next) (tried_in_parts one two (i + 1) (if determines c z (flip signals i) then flip signals i
      else signals))

  one_tried : (count i signals : ℕ) (b : Bool) → determines c z (flip signals i) ≡ b
      → support_by_drops c z (suc count) i signals
      ≡ support_by_drops c z count (i + 1) (if b then flip signals i else signals)
  one_tried count i signals b is_b =
      ap (λ (v : Bool). support_by_drops c z count (i + 1) (if v then flip signals i else signals)) is_b

  -- ---- the support
  whole : support_by_drops c z (length c.graph.signals) 0 (ones (length c.graph.signals)) ≡ support_of c z
  unfolding support_of
  whole = refl

  pub none_tried : (all : ℕ) → all ≡ ones (length c.graph.signals) → AreTried c z 0 all
  none_tried all is_all =
      let e : length c.graph.signals - 0 ≡ length c.graph.signals = omega arith in
      record { told = rw (e, is_all) whole; later = λ j low high. rw is_all (in_ones j _ high) }

  -- a trigger is a signal of the graph
  trigger_within : (j : ℕ) → IsTrigger c z j → j < length c.graph.signals
  trigger_within j t =
      let within = (step_within c.graph t.from t.event t.to is.graph_is t.step).1 in
      omega (arith, within, t.signal)

  module _ (triggers : ℕ) (are : AreTriggers c z triggers) where
    trigger_there : (j : ℕ) → bit triggers j ≡ true → bit (ones (length c.graph.signals)) j ≡ true
    trigger_there j there = in_ones j (length c.graph.signals) (trigger_within j (are j there))

    none_beyond : (j : ℕ) → length c.graph.signals ≤ j → bit triggers j ≡ bit (ones (length c.graph.signals)) j
    none_beyond j past = elim (cases_Bool (bit triggers j)) [
      | inl there ↦ absurd (let within = trigger_within j (are j there) in omega (arith, within, past))
      | inr absent ↦ absent ∙ sym (not_in_ones j (length c.graph.signals) past)
    ]

    -- no trigger is outside the support
    pub triggers_in_support : (j : ℕ) → bit triggers j ≡ true → bit (support_of c z) j ≡ true
    triggers_in_support j there =
        ap (λ (k : ℕ). bit k j) (sym whole)
        ∙ trigger_stays c z (length c.graph.signals) 0 (ones (length c.graph.signals)) j is (are j there)
        (trigger_there j there)

    -- triggers that determine the next value are the support
    pub triggers_are_support : determines c z triggers ≡ true → triggers ≡ support_of c z
    triggers_are_support determined = sym (dropped_to (length c.graph.signals) 0 triggers
        (ones (length c.graph.signals)) triggers (record {
          determined = determined;
          among = trigger_there;
          all_there = λ j low high. in_ones j (length c.graph.signals) (omega (arith, high));
          triggers = λ j low high there. are j there;
        }) (record {
          inside = λ j low high. refl;
          outside = λ j beyond. none_beyond j (past_all j beyond);
        })) ∙ whole
      where
        past_all : (j : ℕ) → (0 ≤ j → j < 0 + length c.graph.signals → ⊥) → length c.graph.signals ≤ j
        past_all j beyond = elim (leb_tells (suc j) (length c.graph.signals)) [
          | inl low ↦ absurd (beyond (omega arith) (let below = low.1 in omega (arith, below)))
          | inr up ↦ (let past = up.1 in omega (arith, past))
        ]

    -- ---- triggers and the signal itself
    module _ (own later : ℕ) (with_own : IsSet triggers z true own) (within : z < length c.graph.signals)
        (behind : (j : ℕ) → z < j → j < length c.graph.signals → bit later j ≡ true)
        (elsewhere : (j : ℕ) → (z < j → j < length c.graph.signals → ⊥) → bit later j ≡ bit triggers j)
        (determined : determines c z own ≡ true) where
      -- what is there when z is tried
      abbrev before : ℕ
      before = flip later z

      own_no_trigger : bit triggers z ≡ false
      own_no_trigger = elim (cases_Bool (bit triggers z)) [
        | inl there ↦ absurd ((are z there).other refl)
        | inr absent ↦ absent
      ]

      before_own : bit before z ≡ true
      before_own = flip-same later z ∙ ap not (elsewhere z (λ low high. omega (arith, low)) ∙ own_no_trigger)

      before_other : (j : ℕ) → (j ≡ z → ⊥) → bit before j ≡ bit later j
      before_other = flip-other later z

      tried_own : flip before z ≡ later
      tried_own = same_codes _ _ (λ j. by_signal j (eqb_tells j z))
        where
          twice : (b : Bool) → not (not b) ≡ b
          twice true = refl
          twice false = refl

          by_signal : (j : ℕ) → (((j == z) ≡ true) × (j ≡ z)) ⊎ (((j == z) ≡ false) × (j ≡ z → ⊥))
              → bit (flip before z) j ≡ bit later j
          by_signal j (inl same) = rw same.1 (flip-same before z ∙ ap not (flip-same later z) ∙ twice (bit later z))
          by_signal j (inr other) = flip-other before z j other.1 ∙ before_other j other.1

      own_trigger : (j : ℕ) → (j ≡ z → ⊥) → bit own j ≡ true → IsTrigger c z j
      own_trigger j other there = are j (sym (with_own.others j other) ∙ there)

      own_within : (j : ℕ) → bit own j ≡ true → j < length c.graph.signals
      own_within j there = elim (eqb_tells j z) [
        | inl same ↦ omega (arith, same.1)
        | inr other ↦ trigger_within j (own_trigger j other.1 there)
      ]

      later_has : (j : ℕ) → bit triggers j ≡ true → bit later j ≡ true
      later_has j there = elim (leb_tells (suc z) j) [
        | inl past ↦ (
            let low = past.1 in
            behind j (omega (arith, low)) (trigger_within j (are j there)))
        | inr up ↦ (
            let high = up.1 in
            elsewhere j (λ low _. omega (arith, low, high)) ∙ there)
      ]

      before_has : (j : ℕ) → bit own j ≡ true → bit before j ≡ true
      before_has j there = elim (eqb_tells j z) [
        | inl same ↦ rw same.1 before_own
        | inr other ↦ before_other j other.1 ∙ later_has j (sym (with_own.others j other.1) ∙ there)
      ]

      -- all other signals before z are dropped
      up_to_own : support_by_drops c z z 0 (ones (length c.graph.signals)) ≡ before
      up_to_own = dropped_to z 0 own (ones (length c.graph.signals)) before (record {
        determined = determined;
        among = λ j there. in_ones j (length c.graph.signals) (own_within j there);
        all_there = λ j low high. in_ones j (length c.graph.signals) (omega (arith, high, within));
        triggers = λ j low high there. own_trigger j (λ e. omega (arith, e, high)) there;
      }) (record {
        inside = λ j low high.
            (let other : (j ≡ z → ⊥) = λ e. omega (arith, e, high) in
            before_other j other ∙ elsewhere j (λ past _. omega (arith, past, high))
            ∙ sym (with_own.others j other));
        outside = λ j beyond. from_own j (λ below. beyond (omega arith) (omega (arith, below)));
      })
        where
          from_own : (j : ℕ) → (j < z → ⊥) → bit before j ≡ bit (ones (length c.graph.signals)) j
          from_own j not_below = elim (eqb_tells j z) [
            | inl same ↦ rw same.1 (before_own ∙ sym (in_ones z (length c.graph.signals) within))
            | inr other ↦ before_other j other.1 ∙ elim (leb_tells (suc j) (length c.graph.signals)) [
              | inl low ↦ (
                  let below : j < length c.graph.signals = omega (arith, low.1) in
                  let different = other.1 in
                  let past : z < j = grind (arith, different, not_below) in
                  behind j past below ∙ sym (in_ones j (length c.graph.signals) below))
              | inr up ↦ (
                  let past : length c.graph.signals ≤ j = omega (arith, up.1) in
                  elsewhere j (λ _ high. omega (arith, past, high)) ∙ none_beyond j past)
            ]
          ]

      -- what is left to try from z on
      from_own_on : (left : ℕ) (b : Bool) → length c.graph.signals ≡ z + suc left → determines c z later ≡ b
          → support_by_drops c z left (z + 1) (if b then later else before) ≡ support_of c z
      from_own_on left b parts is_b =
          sym (in_parts ∙ at_own ∙ one_tried left z before b (ap (determines c z) tried_own ∙ is_b) ∙ without_own)
          ∙ ap (λ (n : ℕ). support_by_drops c z n 0 (ones (length c.graph.signals))) (sym parts) ∙ whole
        where
          in_parts : support_by_drops c z (z + suc left) 0 (ones (length c.graph.signals))
              ≡ support_by_drops c z (suc left) (0 + z) (support_by_drops c z z 0 (ones (length c.graph.signals)))
          in_parts = tried_in_parts z (suc left) 0 (ones (length c.graph.signals))

          at_own : support_by_drops c z (suc left) (0 + z) (support_by_drops c z z 0 (ones (length c.graph.signals)))
              ≡ support_by_drops c z (suc left) z before
          at_own =
              let first : 0 + z ≡ z = omega arith in
              rw first (ap (support_by_drops c z (suc left) z) up_to_own)

          without_own : support_by_drops c z left (z + 1) (if b then flip before z else before)
              ≡ support_by_drops c z left (z + 1) (if b then later else before)
          without_own = ap (λ (k : ℕ). support_by_drops c z left (z + 1) (if b then k else before)) tried_own

      -- z is dropped
      pub own_tried : determines c z later ≡ true → AreTried c z (z + 1) later
      own_tried needless = record {
        told = from_own_on (length c.graph.signals - (z + 1)) true (omega (arith, within)) needless;
        later = λ j low high. behind j (omega (arith, low)) high;
      }

      -- z is kept
      pub own_is_support : determines c z later ≡ false → own ≡ support_of c z
      own_is_support needed = sym (dropped_to (length c.graph.signals - (z + 1)) (z + 1) own before own (record {
        determined = determined;
        among = before_has;
        all_there = λ j low high. before_other j (λ e. omega (arith, e, low))
            ∙ behind j (omega (arith, low)) (omega (arith, low, high));
        triggers = λ j low high there. own_trigger j (λ e. omega (arith, e, low)) there;
      }) (record {
        inside = λ j low high. refl;
        outside = λ j beyond. up_to_own_same j (λ low high. beyond (omega (arith, low)) (omega (arith, low, high)));
      })) ∙ from_own_on (length c.graph.signals - (z + 1)) false (omega (arith, within)) needed
        where
          up_to_own_same : (j : ℕ) → (z < j → j < length c.graph.signals → ⊥) → bit own j ≡ bit before j
          up_to_own_same j not_behind = elim (eqb_tells j z) [
            | inl same ↦ rw same.1 (with_own.there ∙ sym before_own)
            | inr other ↦ with_own.others j other.1 ∙ sym (elsewhere j not_behind) ∙ sym (before_other j other.1)
          ]
