-- The rows of a truth table over few signals, which are filled in state after state.
use Rattle.std.proofs.Common.{◌≡◌, ℕ, suc, ◌+◌, ◌<◌, ◌≤◌, ◌^◌, ◌&&◌, ◌==◌, not, Bool, true, false}
use Rattle.std.proofs.Common.{List, [], ◌∷◌, ◌++◌, length, get_or, set, bit_and, All, Contains}
use Rattle.std.proofs.Common.{Option, Some, None}
use Rattle.std.proofs.Common.{refl, sym, ap, subst, ◌∙◌, arith, inl, inr}
use mathlib.Core.Bool.{beq}
use Rattle.std.specs.Option.{option_eq}
use Rattle.std.proofs.Math.Bool.{and-true}
use Rattle.std.proofs.lemmas.Bool.{cases_lt, true≢false}
use Rattle.std.proofs.lemmas.Bool.Decides.{eqb_tells}
use Rattle.std.proofs.lemmas.List.{get_or_default, get_or-set_same, get_or-set_other}
use Rattle.std.proofs.lemmas.List.{length-set}
use Rattle.std.proofs.lemmas.List.Elements.{Contains-push, Contains-push_cases, Contains-append_left}
use Rattle.std.proofs.lemmas.Nat.Bits.{bit_at_above}
use Rattle.si_base.proofs.BitFacts.{same_codes, bit-and}
use Rattle.si_base.proofs.GraphSteps.{beq-refl}
use Rattle.si_base.specs.Bits.{bit}
use Rattle.si_base.specs.Codes.{CodedGraph, IsCoded, code, next_value}
use Rattle.si_match.specs.Loops.Places.{placed_code}
use Rattle.si_match.specs.Loops.Rows.{AreSignals}
use Rattle.si_match.specs.Support.{determines}
use Rattle.si_match.proofs.CodeLemmas.{states_determine, states_differ}
use Rattle.si_match.proofs.PlaceLemmas.{bit_placed, placed_small}

-- ---- the signals of a set
module _ (signal_set : ℕ) where
  module _ (count : ℕ) (signals : List ℕ) (so_far : AreSignals signal_set count signals) where
    pub not_in_set : bit signal_set count ≡ false → AreSignals signal_set (count + 1) signals
    not_in_set absent y = (
      λ there. (let (below, in_set) = (so_far y).0 there in (omega (arith, below), in_set)),
      λ (below, in_set). (so_far y).1 (earlier y below in_set, in_set),
    )
      where
        earlier : (y : ℕ) → y < count + 1 → bit signal_set y ≡ true → y < count
        earlier y below in_set = elim (eqb_tells y count) [
          | inl same ↦ absurd (true≢false (sym in_set ∙ ap (bit signal_set) same.1 ∙ absent))
          | inr other ↦ (let not_last = other.1 in grind (arith, below, not_last))
        ]

    pub in_set_too : (more : List ℕ) → bit signal_set count ≡ true → more ≡ signals ++ count ∷ []
        → AreSignals signal_set (count + 1) more
    in_set_too more present pushed y = (
      λ there. elim (Contains-push_cases signals count y (subst (λ xs. Contains xs y) pushed there)) [
        | inl before ↦ (let (below, in_set) = (so_far y).0 before in (omega (arith, below), in_set))
        | inr last ↦ (omega (arith, last), ap (bit signal_set) (sym last) ∙ present)
      ],
      λ (below, in_set). subst (λ xs. Contains xs y) (sym pushed) (elim (eqb_tells y count) [
        | inl same ↦ subst (Contains (signals ++ count ∷ [])) (sym same.1) (Contains-push signals count)
        | inr other ↦ (
            let not_last = other.1 in
            let earlier : y < count = grind (arith, below, not_last) in
            Contains-append_left signals (count ∷ []) y ((so_far y).1 (earlier, in_set)))
      ]),
    )

pub signals_below : (signal_set count width : ℕ) (signals : List ℕ) → AreSignals signal_set count signals
    → count ≤ width → All (λ y. y < width) signals
signals_below signal_set count width signals are wide p d within =
    let (below, in_set) = (are (get_or signals p d)).0
    (p, within, sym (get_or_default signals p d (get_or signals p d) within)) in
    omega (arith, below, wide)

-- ---- codes with the same values
placed_by_values : (signals : List ℕ) (a b : ℕ) → ((y : ℕ) → Contains signals y → bit a y ≡ bit b y)
    → placed_code signals a ≡ placed_code signals b
placed_by_values [] a b same = refl
placed_by_values (y ∷ ys) a b same =
    let here : bit a y ≡ bit b y = same y (0, omega arith, refl) in
    let later = placed_by_values ys a b (λ x (p, within, at). same x (suc p, omega (arith, within), at)) in
    rw (here, later) refl

module _ (signal_set count : ℕ) (signals : List ℕ) (are : AreSignals signal_set count signals) (a b : ℕ) where
  pub same_row : bit_and a signal_set ≡ bit_and b signal_set → placed_code signals a ≡ placed_code signals b
  same_row same = placed_by_values signals a b by_signal
    where
      of_set : (k y : ℕ) → bit signal_set y ≡ true → bit (bit_and k signal_set) y ≡ bit k y
      of_set k y in_set = bit-and k signal_set y ∙ ap (λ v. bit k y && v) in_set ∙ and-true (bit k y)

      by_signal : (y : ℕ) → Contains signals y → bit a y ≡ bit b y
      by_signal y there =
          let (below, in_set) = (are y).0 there in
          sym (of_set a y in_set) ∙ ap (λ k. bit k y) same ∙ of_set b y in_set

  pub same_values : a < 2 ^ count → b < 2 ^ count → placed_code signals a ≡ placed_code signals b
      → bit_and a signal_set ≡ bit_and b signal_set
  same_values a_small b_small same =
      same_codes _ _ (λ y. bit-and a signal_set y ∙ by_set y (bit signal_set y) refl ∙ sym (bit-and b signal_set y))
    where
      beyond : (k y : ℕ) → k < 2 ^ count → count ≤ y → bit k y ≡ false
      beyond k y small past = ap (λ v. v == 1) (bit_at_above k count y small past)

      of_signal : (k y p : ℕ) → p < length signals → get_or signals p y ≡ y → bit (placed_code signals k) p ≡ bit k y
      of_signal k y p within at =
          bit_placed signals k p within ∙ ap (bit k) (get_or_default signals p 0 y within ∙ at)

      by_signal : (y : ℕ) → bit signal_set y ≡ true → bit a y ≡ bit b y
      by_signal y in_set = elim (cases_lt y count) [
        | inl below ↦ (
            let (p, within, at) = (are y).1 (below, in_set) in
            sym (of_signal a y p within at) ∙ ap (λ k. bit k p) same ∙ of_signal b y p within at)
        | inr past ↦ beyond a y a_small past ∙ sym (beyond b y b_small past)
      ]

      by_set : (y : ℕ) (v : Bool) → bit signal_set y ≡ v
          → (bit a y && bit signal_set y) ≡ (bit b y && bit signal_set y)
      by_set y true in_set = ap (λ u. u && bit signal_set y) (by_signal y in_set)
      by_set y false out = rw out (no_value (bit a y) (bit b y))
        where
          no_value : (u v : Bool) → (u && false) ≡ (v && false)
          no_value true true = refl
          no_value true false = refl
          no_value false true = refl
          no_value false false = refl

-- ---- rows
-- the first states, so many, have filled in the rows of their values, and no others are filled in
pub record AreFilled (c : CodedGraph) (z : ℕ) (signals : List ℕ) (count : ℕ) (rows : List (Option Bool)) : Type 0 where
  pub size : length rows ≡ 2 ^ length signals
  pub filled : (s : ℕ) → s < count → get_or rows (placed_code signals (code c s)) None ≡ Some (next_value c s z)
  pub no_more : (m : ℕ) (v : Bool) → get_or rows m None ≡ Some v
      → (s : ℕ) × (s < count) × (placed_code signals (code c s) ≡ m) × (next_value c s z ≡ v)

some_value : (u v : Bool) → Some u ≡ Some v → u ≡ v
some_value u v same = cc

pub other_value : (u v : Bool) → (u ≡ not v → ⊥) → u ≡ v
other_value true true other = refl
other_value true false other = absurd (other refl)
other_value false true other = absurd (other refl)
other_value false false other = refl

-- a row that is compared with a next value
pub row_equal : (row : Option Bool) (v : Bool) → option_eq beq row (Some v) ≡ true → row ≡ Some v
row_equal None v told = absurd (true≢false (sym told))
row_equal (Some true) true told = refl
row_equal (Some false) false told = refl
row_equal (Some true) false told = absurd (true≢false (sym told))
row_equal (Some false) true told = absurd (true≢false (sym told))

pub row_unequal : (row : Option Bool) (v : Bool) → option_eq beq row (Some v) ≡ false → row ≡ Some v → ⊥
row_unequal row v told same =
    true≢false (sym (ap (λ r. option_eq beq r (Some v)) same ∙ beq-refl v) ∙ told)

pub placed_at : (slice signals : List ℕ) (a b m : ℕ) → slice ≡ signals → a ≡ b → m ≡ placed_code slice a
    → m ≡ placed_code signals b
placed_at slice signals a b m same equal is = is ∙ ap (λ ys. placed_code ys a) same ∙ ap (placed_code signals) equal

module _ (c : CodedGraph) (z : ℕ) (signals : List ℕ) (s m : ℕ) (rows : List (Option Bool))
    (so_far : AreFilled c z signals s rows) (row : m ≡ placed_code signals (code c s)) where
  -- a row is there for the state
  row_within : m < length rows
  row_within = let small = placed_small signals (code c s) in omega (arith, small, row, so_far.size)

  -- what is read in the row
  pub row_read : (read : Option Bool) → read ≡ get_or rows m read → get_or rows m None ≡ read
  row_read read is = get_or_default rows m None read row_within ∙ sym is

  -- the row has the other next value
  pub row_differs : (signal_set : ℕ) → AreSignals signal_set (length c.graph.signals) signals → IsCoded c
      → s < length c.codes → get_or rows m None ≡ Some (not (next_value c s z))
      → determines c z signal_set ≡ false
  row_differs signal_set are coded within is =
      let (t, before, same, next) = so_far.no_more m (not (next_value c s z)) is in
      let inside : t < length c.codes = omega (arith, before, within) in
      states_differ c z signal_set s t within inside
      (same_values signal_set (length c.graph.signals) signals are (code c s) (code c t) (coded.no_more s 0 within)
      (coded.no_more t 0 inside) (sym row ∙ sym same))
      (λ equal. not_same (next_value c s z) (equal ∙ next))
    where
      not_same : (v : Bool) → v ≡ not v → ⊥
      not_same true same = true≢false same
      not_same false same = true≢false (sym same)

  -- the row has no other next value: the state fills it in
  pub filled_too : (next : Bool) (made : List (Option Bool)) → next ≡ next_value c s z
      → (get_or rows m None ≡ Some (not next) → ⊥) → made ≡ set rows m (Some next)
      → AreFilled c z signals (s + 1) made
  filled_too next made next_is no_other is = subst (AreFilled c z signals (s + 1)) (sym is) record {
    size = length-set rows m (Some next) ∙ so_far.size;
    filled = filled;
    no_more = no_more;
  }
    where
      now : List (Option Bool)
      now = set rows m (Some next)

      here : get_or now m None ≡ Some next
      here = get_or-set_same rows m (Some next) None row_within

      elsewhere : (k : ℕ) → (k ≡ m → ⊥) → get_or now k None ≡ get_or rows k None
      elsewhere k apart = get_or-set_other rows m k (Some next) None apart

      -- a state before it, in the row m or elsewhere
      before : (t : ℕ) → t < s → get_or now (placed_code signals (code c t)) None ≡ Some (next_value c t z)
      before t earlier = elim (eqb_tells (placed_code signals (code c t)) m) [
        | inl same ↦ (
            let old : get_or rows m None ≡ Some (next_value c t z) =
            ap (λ k. get_or rows k None) (sym same.1) ∙ so_far.filled t earlier in
            let equal : next_value c t z ≡ next = other_value (next_value c t z) next
            (λ other. no_other (old ∙ ap Some other)) in
            ap (λ k. get_or now k None) same.1 ∙ here ∙ ap Some (sym equal))
        | inr apart ↦ elsewhere (placed_code signals (code c t)) apart.1 ∙ so_far.filled t earlier
      ]

      filled : (t : ℕ) → t < s + 1
          → get_or now (placed_code signals (code c t)) None ≡ Some (next_value c t z)
      filled t within = elim (eqb_tells t s) [
        | inl same ↦ rw (same.1, ← row, ← next_is) here
        | inr other ↦ (let not_last = other.1 in before t (grind (arith, within, not_last)))
      ]

      no_more : (k : ℕ) (v : Bool) → get_or now k None ≡ Some v
          → (t : ℕ) × (t < s + 1) × (placed_code signals (code c t) ≡ k) × (next_value c t z ≡ v)
      no_more k v told = elim (eqb_tells k m) [
        | inl same ↦ (
            let equal = some_value next v (sym here ∙ ap (λ j. get_or now j None) (sym same.1) ∙ told) in
            (s, omega arith, sym row ∙ sym same.1, sym next_is ∙ equal))
        | inr apart ↦ (
            let (t, earlier, at, value) = so_far.no_more k v (sym (elsewhere k apart.1) ∙ told) in
            (t, omega (arith, earlier), at, value))
      ]

-- each state has filled in its row
pub all_filled : (c : CodedGraph) (z signal_set : ℕ) (signals : List ℕ) (count : ℕ) (rows : List (Option Bool))
    → AreSignals signal_set (length c.graph.signals) signals → length c.codes ≤ count
    → AreFilled c z signals count rows → determines c z signal_set ≡ true
all_filled c z signal_set signals count rows are past filled =
    states_determine c z signal_set (λ s t inside_s inside_t same. (
    let row = same_row signal_set (length c.graph.signals) signals are (code c s) (code c t) same in
    some_value (next_value c s z) (next_value c t z)
    (sym (filled.filled s (omega (arith, inside_s, past))) ∙ ap (λ k. get_or rows k None) row
    ∙ filled.filled t (omega (arith, inside_t, past)))))
