-- An instance that reads too few triggers fits at no completion.
use Rattle.std.proofs.Common.{◌≡◌, ◌≢◌, ℕ, zero, suc, ◌+◌, ◌<◌, ◌≤◌, Bool, true, false, List, [], ◌∷◌, ◌++◌, length}
use Rattle.std.proofs.Common.{map, get_or, All, Contains, None, if◌then◌else◌, not}
use Rattle.std.proofs.Common.{refl, sym, ap, subst, ◌∙◌, arith, inl, inr, append_assoc}
use Rattle.std.specs.List.{AllByRecursion}
use Rattle.std.proofs.lemmas.Bool.{cases_Bool, true≢false}
use Rattle.std.proofs.lemmas.Bool.Decides.{eqb_tells}
use Rattle.std.proofs.lemmas.List.{append-nil, get_or_default, length_push}
use Rattle.std.proofs.lemmas.List.Elements.{recursion_from_All, All-nil, All-push}
use Rattle.si_base.proofs.BitFacts.{flip-same, flip-other, bit-zero}
use Rattle.si_base.proofs.StepCodes.{code_of_step, step_within}
use Rattle.si_base.proofs.GraphSteps.{beq-true}
use Rattle.si_base.specs.Bits.{bit, flip, IsSet}
use Rattle.si_base.specs.Codes.{CodedGraph, IsCoded, code, next_value}
use Rattle.si_base.specs.Netlist.{literal_value, sum_value}
use Rattle.si_base.specs.declared.graph.Edge.{Edge}
use Rattle.si_base.specs.declared.ids.Literal.{Literal}
use Rattle.si_cell.specs.Library.{Cell, pin_values}
use Rattle.si_graph.specs.NextCodes.{IsNextCode}
use Rattle.si_match.specs.Fit.{suits, fits}
use Rattle.si_cell.specs.declared.pins.Pins.{Pins}
use Rattle.si_match.specs.Loops.Search.{IsRefuted, first_completion}
use Rattle.si_match.specs.Support.{agree}
use Rattle.si_match.specs.Triggers.{IsTrigger, IsUnread, IsNeeded, AreMissing, AreTriggers}
use Rattle.si_match.specs.Weight.{size_from}
use Rattle.si_match.proofs.DroppingLemmas.{agree_by_bits, bits_of_agree}
use Rattle.si_match.proofs.SearchLemmas.{refuted}
use Rattle.si_match.proofs.StateLemmas.{one_fails}

-- ---- a trigger that isn't read
pub same_values : (k m i : ℕ) → ((j : ℕ) → j ≢ i → bit m j ≡ bit k j) → (literals : List Literal)
    → AllByRecursion (λ (l : Literal). l.sig ≢ i) literals
    → map (literal_value m) literals ≡ map (literal_value k) literals
same_values k m i agree [] unread = refl
same_values k m i agree (l ∷ ls) unread = rw (agree l.sig unread.0, same_values k m i agree ls unread.1) refl

module _ (c : CodedGraph) (z : ℕ) (cell : Cell) (is : IsCoded c) where
  pub unread_unfit : (i : ℕ) (literals : List Literal) → IsTrigger c z i → IsUnread i literals
      → fits c z cell literals ≡ false
  unread_unfit i literals t unread = elim (cases_Bool (fits c z cell literals)) [
    | inl fits_all ↦ absurd (t.changes (sym (at_to fits_all) ∙ same ∙ at_from fits_all))
    | inr no_fit ↦ no_fit
  ]
    where
      agree : (j : ℕ) → j ≢ i → bit (code c t.to) j ≡ bit (code c t.from) j
      agree j other =
          ap (λ (k : ℕ). bit k j) (code_of_step c t.from t.event t.to is t.step)
          ∙ flip-other (code c t.from) t.event.sig j (λ e. other (e ∙ t.signal))

      own : bit (code c t.to) z ≡ bit (code c t.from) z
      own = agree z (λ e. t.other (sym e))

      value : ℕ → Bool
      value s = sum_value (pin_values literals (code c s) (bit (code c s) z)) cell.sum

      same : value t.to ≡ value t.from
      same = rw (
        own,
        same_values (code c t.from) (code c t.to) i agree literals (recursion_from_All (λ
            (l : Literal). l.sig ≢ i) literals unread),
      ) refl

      from_within : t.from < length c.codes
      from_within = omega (arith, is.count, (step_within c.graph t.from t.event t.to is.graph_is t.step).0)

      to_within : t.to < length c.codes
      to_within = omega (arith, is.count, (step_within c.graph t.from t.event t.to is.graph_is t.step).2)

      at : (s : ℕ) → s < length c.codes → fits c z cell literals ≡ true → value s ≡ next_value c s z
      at s within all = elim (cases_Bool (suits c z cell literals (s, code c s))) [
        | inl suits_here ↦ beq-true _ _ suits_here
        | inr fails ↦ absurd (true≢false (sym all ∙ one_fails c (suits c z cell literals) s within fails))
      ]

      at_from : fits c z cell literals ≡ true → value t.from ≡ next_value c t.from z
      at_from = at t.from from_within

      at_to : fits c z cell literals ≡ true → value t.to ≡ next_value c t.to z
      at_to = at t.to to_within

-- no cell fits without its triggers
pub trigger_needed : (c : CodedGraph) (z : ℕ) (cell : Cell) (i : ℕ) → IsCoded c → IsTrigger c z i
    → IsNeeded c z cell i
trigger_needed c z cell i is trigger literals count inside unread = unread_unfit c z cell is i literals trigger unread

pub all_needed : (c : CodedGraph) (z : ℕ) (cell : Cell) (signals : ℕ) → IsCoded c → AreTriggers c z signals
    → AreMissing c z cell [] signals
all_needed c z cell signals is are i set =
    (trigger_needed c z cell i is (are i set), All-nil (λ (l : Literal). l.sig ≢ i))

-- ---- sizes of sets
size_same : (n i k m : ℕ) → ((j : ℕ) → i ≤ j → bit m j ≡ bit k j) → size_from n i m ≡ size_from n i k
size_same zero i k m agree = refl
size_same (suc n) i k m agree =
    rw (agree i (omega arith), size_same n (i + 1) k m (λ j later. agree j (omega (arith, later)))) refl

abbrev one_if : Bool → ℕ
one_if b = if b then 1 else 0

at_most_one : (b : Bool) → one_if b ≤ 1
at_most_one true = omega arith
at_most_one false = omega arith

pub size_drop : (n i k m x : ℕ) → ((j : ℕ) → j ≢ x → bit m j ≡ bit k j) → size_from n i k ≤ size_from n i m + 1
size_drop zero i k m x agree = omega arith
size_drop (suc n) i k m x agree = elim (eqb_tells i x) [
  | inl same ↦ (
      let later : size_from n (i + 1) m ≡ size_from n (i + 1) k =
      size_same n (i + 1) k m (λ j after. agree j (λ e. omega (arith, after, e, same.1))) in
      omega (arith, at_most_one (bit k i), later))
  | inr other ↦ (
      let head : one_if (bit m i) ≡ one_if (bit k i) = ap one_if (agree i other.1) in
      omega (arith, head, size_drop n (i + 1) k m x agree))
]

pub some_bit : (n i k : ℕ) → 0 < size_from n i k → (j : ℕ) × (bit k j ≡ true)
some_bit zero i k more = absurd (omega (arith, more))
some_bit (suc n) i k more = elim (cases_Bool (bit k i)) [
  | inl set ↦ (i, set)
  | inr clear ↦ (
      let head : one_if (bit k i) ≡ 0 = ap one_if clear in
      some_bit n (i + 1) k (omega (arith, more, head)))
]

-- ---- too many triggers for the pins that are left
abbrev pub without : ℕ → ℕ → ℕ
without k j = if bit k j then flip k j else k

pub without_there : (k j : ℕ) → bit (without k j) j ≡ false
without_there k j = elim (cases_Bool (bit k j)) [
  | inl set ↦ rw set (flip-same k j ∙ rw set refl)
  | inr clear ↦ rw clear clear
]

pub without_others : (k j i : ℕ) → i ≢ j → bit (without k j) i ≡ bit k i
without_others k j i other = elim (cases_Bool (bit k j)) [
  | inl set ↦ rw set (flip-other k j i other)
  | inr clear ↦ rw clear refl
]

-- with one more literal the signal of that isn't missing
pub missing_next : (c : CodedGraph) (z : ℕ) (cell : Cell) (literals : List Literal) (l : Literal) (missing next : ℕ)
    → bit next l.sig ≡ false → ((i : ℕ) → i ≢ l.sig → bit next i ≡ bit missing i)
    → AreMissing c z cell literals missing → AreMissing c z cell (literals ++ l ∷ []) next
missing_next c z cell literals l missing next clear others are i set =
    let Unread : Literal → Type 0 = λ m. m.sig ≢ i in
    let other : i ≢ l.sig = λ e. true≢false (sym set ∙ ap (bit next) e ∙ clear) in
    let before = are i (sym (others i other) ∙ set) in
    (before.0, All-push Unread literals l before.1 (λ e. other (sym e)))

pub missing_refutes : (c : CodedGraph) (z : ℕ) (cell : Cell) → (n more : ℕ) (literals : List Literal)
    (missing : ℕ) → AreMissing c z cell literals missing → length literals + more ≡ length cell.pins
    → All (λ l. l.sig < length c.graph.signals) literals → more < size_from n 0 missing
    → IsRefuted c z cell literals more
missing_refutes c z cell n zero literals missing are pins inside many [] count rest_inside =
    let some = some_bit n 0 missing many in
    let needed = are some.0 some.1 in
    ap (fits c z cell) (append-nil literals) ∙ needed.0 literals (omega (arith, pins)) inside needed.1
missing_refutes c z cell n zero literals missing are pins inside many (l ∷ rest) count rest_inside =
    absurd (omega (arith, count))
missing_refutes c z cell n (suc more) literals missing are pins inside many [] count rest_inside =
    absurd (omega (arith, count))
missing_refutes c z cell n (suc more) literals missing are pins inside many (l ∷ rest) count rest_inside =
    let Small : Literal → Type 0 = λ m. m.sig < length c.graph.signals in
    let next = without missing l.sig in
    let others : (i : ℕ) → i ≢ l.sig → bit next i ≡ bit missing i = without_others missing l.sig in
    let drop = size_drop n 0 missing next l.sig others in
    let after = missing_next c z cell literals l missing next (without_there missing l.sig) others are in
    let more_pins : length (literals ++ l ∷ []) + more ≡ length cell.pins = rw length_push (omega (arith, pins)) in
    let more_inside = All-push Small literals l inside (rest_inside 0 l (omega arith)) in
    ap (fits c z cell) (sym (append_assoc literals (l ∷ []) rest))
    ∙ missing_refutes c z cell n more (literals ++ l ∷ []) next after more_pins more_inside
    (omega (arith, many, drop)) rest (omega (arith, count))
    (λ k d within. rest_inside (suc k) d (omega (arith, within)))

pub missing_now : (allowed : Pins) (c : CodedGraph) (z : ℕ) (cell : Cell) (literals : List Literal) (more missing size : ℕ)
    → AreMissing c z cell literals missing → length literals + more ≡ length cell.pins
    → All (λ l. l.sig < length c.graph.signals) literals → size ≡ size_from (length c.graph.signals) 0 missing
    → more < size → first_completion allowed c z cell literals more ≡ None
missing_now allowed c z cell literals more missing size are pins inside size_is many =
    refuted allowed c z cell literals more (missing_refutes c z cell (length c.graph.signals) more literals missing are pins
    inside (omega (arith, many, size_is)))

-- ---- the triggers that are found
pub arc_trigger : (c : CodedGraph) (z : ℕ) (a : Edge) → Contains c.graph.edges a → a.event.sig ≢ z
    → next_value c a.to z ≢ next_value c a.from z → IsTrigger c z a.event.sig
arc_trigger c z a there other changes = record {
  from = a.from;
  event = a.event;
  to = a.to;
  step = there;
  signal = refl;
  other = other;
  changes = changes;
}

pub one_more_trigger : (c : CodedGraph) (z i k next : ℕ) → IsTrigger c z i → IsSet k i true next
    → AreTriggers c z k → AreTriggers c z next
one_more_trigger c z i k next trigger set are j there = elim (eqb_tells j i) [
  | inl same ↦ subst (IsTrigger c z) (sym same.1) trigger
  | inr other ↦ are j (sym (set.others j other.1) ∙ there)
]

-- ---- all triggers are found
-- the one set is in the other
abbrev pub IsWithin : ℕ → ℕ → Type 0
IsWithin few more = (i : ℕ) → bit few i ≡ true → bit more i ≡ true

pub set_keeps : (k i next : ℕ) → IsSet k i true next → IsWithin k next
set_keeps k i next set j there = elim (eqb_tells j i) [
  | inl same ↦ ap (bit next) same.1 ∙ set.there
  | inr other ↦ set.others j other.1 ∙ there
]

pub both_set : (few more i next_few next_more : ℕ) → IsWithin few more → IsSet few i true next_few
    → IsSet more i true next_more → IsWithin next_few next_more
both_set few more i next_few next_more within set_few set_more j there = elim (eqb_tells j i) [
  | inl same ↦ ap (bit next_more) same.1 ∙ set_more.there
  | inr other ↦ set_more.others j other.1 ∙ within j (sym (set_few.others j other.1) ∙ there)
]

-- across the arc, of another signal than z, the next value of z changes
abbrev pub Changes : CodedGraph → ℕ → Edge → Type 0
Changes c z a = (a.event.sig ≢ z) × (next_value c a.to z ≢ next_value c a.from z)

-- of the first arcs, so many, those across which it changes are of signals in the set
abbrev pub AreFound : CodedGraph → ℕ → List Edge → ℕ → ℕ → Type 0
AreFound c z edges signals count =
    (k : ℕ) (a : Edge) → k < count → get_or edges k a ≡ a → Changes c z a → bit signals a.event.sig ≡ true

pub one_more_found : (c : CodedGraph) (z : ℕ) (edges : List Edge) (i : ℕ) (item : Edge) (signals next : ℕ)
    → i < length edges → item ≡ get_or edges i item → AreFound c z edges signals i → IsWithin signals next
    → (Changes c z item → bit next item.event.sig ≡ true) → AreFound c z edges next (i + 1)
one_more_found c z edges i item signals next inside is found within here k a below at changes =
    elim (eqb_tells k i) [
      | inl same ↦ (
          let this : item ≡ a =
          is ∙ get_or_default edges i item a inside ∙ ap (λ n. get_or edges n a) (sym same.1) ∙ at in
          subst (λ (b : Edge). Changes c z b → bit next b.event.sig ≡ true) this here changes)
      | inr other ↦ (
          let not_last = other.1 in
          within a.event.sig (found k a (grind (arith, below, not_last)) at changes))
    ]

-- ---- an arc across which the next value changes: the next codes at its ends, cut to the signal, differ
module _ (c : CodedGraph) (z s t only at_s at_t : ℕ) (test : Bool) (within : z < length c.graph.signals)
    (only_is : only ≡ flip 0 z) (s_is : IsNextCode c s at_s) (t_is : IsNextCode c t at_t)
    (tested : test ≡ not (agree only at_t at_s)) where
  only_there : bit only z ≡ true
  only_there = ap (λ (k : ℕ). bit k z) only_is ∙ flip-same 0 z ∙ rw (bit-zero z) refl

  only_one : (j : ℕ) → bit only j ≡ true → j ≡ z
  only_one j there = elim (eqb_tells j z) [
    | inl same ↦ same.1
    | inr other ↦ absurd (true≢false (sym there ∙ ap (λ (k : ℕ). bit k j) only_is ∙ flip-other 0 z j other.1
        ∙ bit-zero j))
  ]

  pub next_changes : test ≡ true → next_value c t z ≢ next_value c s z
  next_changes on same = true≢false (sym on ∙ tested ∙ ap not (agree_by_bits only at_t at_s alike))
    where
      here : bit at_t z ≡ bit at_s z
      here = t_is.values z within ∙ same ∙ sym (s_is.values z within)

      alike : (j : ℕ) → bit only j ≡ true → bit at_t j ≡ bit at_s j
      alike j there = subst (λ (i : ℕ). bit at_t i ≡ bit at_s i) (sym (only_one j there)) here

  pub next_stays : test ≡ false → next_value c t z ≡ next_value c s z
  next_stays off =
      sym (t_is.values z within)
      ∙ bits_of_agree only at_t at_s z (of_not (agree only at_t at_s) (sym tested ∙ off)) only_there
      ∙ s_is.values z within
    where
      of_not : (b : Bool) → not b ≡ false → b ≡ true
      of_not true off = refl
      of_not false off = absurd (true≢false off)
