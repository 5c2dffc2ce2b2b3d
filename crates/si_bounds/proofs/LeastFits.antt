-- What a signal that never waits for a new one adds to the weight of the inserted graph at least.
use Rattle.std.proofs.Common.{◌≡◌, ℕ, zero, suc, ◌+◌, ◌<◌, ◌≤◌, ◌⊎◌, Bool, true, false, List, [], ◌∷◌}
use Rattle.std.proofs.Common.{length, slice_get, Some, refl, sym, ap, ◌∙◌, arith}
use Rattle.std.proofs.Common.{inl, inr, length-append, if◌then◌else◌}
use Rattle.std.proofs.lemmas.Bool.{true≢false}
use Rattle.std.proofs.lemmas.Bool.Decides.{eqb_tells}
use Rattle.si_base.specs.Bits.{bit}
use Rattle.si_base.specs.Codes.{CodedGraph, IsCoded, next_value}
use Rattle.si_base.specs.Graph.{StateGraph}
use Rattle.si_base.specs.declared.graph.Signal.{Signal}
use Rattle.si_base.proofs.StepCodes.{step_within}
use Rattle.si_cell.specs.Library.{Library}
use Rattle.si_insert.specs.declared.partition.Class.{Class}
use Rattle.si_insert.specs.declared.partition.Class.TheVariants.{Low, Rising, High, Falling}
use Rattle.si_insert.specs.Partition.{class_of, IsLawful}
use Rattle.si_insert.specs.Insertion.{Copy, IsCopied, IsInsertedGraph, coded, has_copy, waits}
use Rattle.si_insert.proofs.InsertionCopies.{copy, placed}
use Rattle.si_insert.proofs.InsertionProper.{goes_on}
use Rattle.si_match.specs.Triggers.{IsTrigger, AreTriggers}
use Rattle.si_match.specs.Weight.{size_from}
use Rattle.si_match.proofs.UnfitLemmas.{one_le, size_le}
use Rattle.si_bounds.specs.Loops.Waiting.{NeverWaits}
use Rattle.si_bounds.proofs.WaitingFits.{same_next}

-- ---- the value of the new signal at which a state of the class is left: no arc waits there
abbrev pub exit : Class → Bool
exit Low = false
exit Rising = true
exit High = true
exit Falling = false

pub exit_there : (from : Class) → has_copy from (exit from) ≡ true
exit_there Low = refl
exit_there Rising = refl
exit_there High = refl
exit_there Falling = refl

exit_goes : (from to : Class) → waits from to (exit from) ≡ false
exit_goes Low to = refl
exit_goes High to = refl
exit_goes Rising Low = refl
exit_goes Rising Rising = refl
exit_goes Rising High = refl
exit_goes Rising Falling = refl
exit_goes Falling Low = refl
exit_goes Falling Rising = refl
exit_goes Falling High = refl
exit_goes Falling Falling = refl

-- ---- sizes of sets
abbrev one_if : Bool → ℕ
one_if b = if b then 1 else 0

-- a set in another is smaller, or has all of it
pub smaller_or_same : (n i few more : ℕ) → ((j : ℕ) → bit few j ≡ true → bit more j ≡ true)
    → (size_from n i few + 1 ≤ size_from n i more)
    ⊎ ((j : ℕ) → i ≤ j → j < i + n → bit more j ≡ true → bit few j ≡ true)
smaller_or_same zero i few more within = inr (λ j low high. absurd (omega (arith, low, high)))
smaller_or_same (suc n) i few more within = elim (smaller_or_same n (i + 1) few more within) [
  | inl less ↦ inl (let head = one_le (bit few i) (bit more i) (within i) in omega (arith, head, less))
  | inr same ↦ by_first same (bit few i) (bit more i) refl refl
]
  where
    by_first : ((j : ℕ) → i + 1 ≤ j → j < i + 1 + n → bit more j ≡ true → bit few j ≡ true)
        → (a b : Bool) → bit few i ≡ a → bit more i ≡ b
        → (size_from (suc n) i few + 1 ≤ size_from (suc n) i more)
        ⊎ ((j : ℕ) → i ≤ j → j < i + suc n → bit more j ≡ true → bit few j ≡ true)
    by_first same false true absent there = inl (
        let head : one_if (bit few i) ≡ 0 = ap one_if absent in
        let more_head : one_if (bit more i) ≡ 1 = ap one_if there in
        omega (arith, head, more_head, size_le n (i + 1) few more within))
    by_first same true b few_is more_is = inr (λ j low high there. elim (eqb_tells j i) [
      | inl at ↦ ap (bit few) at.1 ∙ few_is
      | inr other ↦ (let not_first = other.1 in
          same j (grind (arith, low, not_first)) (omega (arith, high)) there)
    ])
    by_first same false false few_is more_is = inr (λ j low high there. elim (eqb_tells j i) [
      | inl at ↦ absurd (true≢false (sym there ∙ ap (bit more) at.1 ∙ more_is))
      | inr other ↦ (let not_first = other.1 in
          same j (grind (arith, low, not_first)) (omega (arith, high)) there)
    ])

module _ (c : CodedGraph) (classes : List Class) (new : Signal) (copies : List Copy) (h : StateGraph)
    (is : IsCoded c) (lawful : IsLawful c.graph classes) (inserted : IsInsertedGraph c.graph classes new copies h)
    (z : ℕ) (old : z < length c.graph.signals) (never : NeverWaits c.graph classes z)
    (made : IsCoded (coded c copies h)) where
  abbrev n : ℕ
  n = length c.graph.signals

  abbrev d : CodedGraph
  d = coded c copies h

  pub one_signal_more : length h.signals ≡ suc n
  one_signal_more =
      let count = ap (length {A = Signal}) inserted.signals ∙ length-append c.graph.signals (new ∷ []) in
      omega (arith, count)

  -- ---- triggers stay
  next_at : (k : ℕ) (x : Copy) → slice_get copies k ≡ Some x → next_value d k z ≡ next_value c x.state z
  next_at k x at = same_next c classes new copies h is lawful inserted k x at z old never

  pub trigger_stays : (i : ℕ) → IsTrigger c z i → IsTrigger d z i
  trigger_stays i t =
      let within = step_within c.graph t.from t.event t.to is.graph_is t.step in
      let from = class_of classes t.from in
      let x : Copy = copy t.from (exit from) in
      let y : Copy = copy t.to (exit from) in
      let (k, inside, at) = placed c.graph classes new copies h x inserted
      (record { within = within.0; there = exit_there from }) in
      let moved : IsCopied c.graph classes x t.event y =
      record { step = t.step; keeps = refl; goes = exit_goes from (class_of classes t.to) } in
      let (m, at_m, step) = goes_on c.graph classes new copies h k t.event x y is.graph_is lawful inserted at
      (inl moved) in
      record {
        from = k;
        event = t.event;
        to = m;
        step = step;
        signal = t.signal;
        other = t.other;
        changes = λ same. t.changes (sym (next_at m y at_m) ∙ same ∙ next_at k x at);
      }

  pub trigger_old : (i : ℕ) → IsTrigger c z i → i < n
  trigger_old i t =
      let within = step_within c.graph t.from t.event t.to is.graph_is t.step in omega (arith, within.1, t.signal)

  module _ (library : Library) (triggers : ℕ) (are : AreTriggers c z triggers) where
    pub all_stay : AreTriggers d z triggers
    all_stay i there = trigger_stays i (are i there)
