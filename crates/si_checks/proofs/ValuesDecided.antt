-- Whether a signal of a connected graph has values.
use Rattle.std.proofs.Common.{◌≡◌, ℕ, zero, suc, ◌<◌, ◌≤◌, ◌⊎◌, Bool, true, false, not, length, Contains, refl, sym, ap}
use Rattle.std.proofs.Common.{subst, ◌∙◌, arith, inl, inr}
use Rattle.std.proofs.lemmas.Bool.{cases_Bool, cases_eq, cases_lt, cases_order}
use Rattle.si_base.specs.declared.graph.Edge.{Edge}
use Rattle.si_base.specs.Bits.{bit}
use Rattle.si_base.specs.Graph.{StateGraph, Step, IsGraph, arc, rise, fall}
use Rattle.si_base.specs.Codes.{AreValues, HasValues, IsIdle, IsConnected, IsConsistent}
use Rattle.si_base.specs.Proper.{IsFirstWithoutValues}
use Rattle.si_base.proofs.RightGateLemmas.{turns, old_value}
use Rattle.si_base.proofs.CodeParity.{parity, turn, values_along}
use Rattle.si_checks.proofs.ByCodesExist.{values_as}
use Rattle.si_checks.proofs.SearchDecisions as decide
use Rattle.si_checks.proofs.SearchDecisions.{Decided}

-- ---- whether these are values
module _ (g : StateGraph) (a : ℕ) (w : ℕ → Bool) where
  -- the values suit the arc: one of the signal's own turns them as it says, and another keeps them
  record Suits (x : Edge) : Type 0 where
    own : x.event.sig ≡ a → (w x.from ≡ not x.event.up) × (w x.to ≡ x.event.up)
    other : (x.event.sig ≡ a → ⊥) → w x.to ≡ w x.from

  suits : (x : Edge) → Decided (Suits x)
  suits x = elim (cases_eq x.event.sig a) [
    | inl own ↦ elim (decide.both (decide.same_value (w x.from) (not x.event.up))
        (decide.same_value (w x.to) x.event.up)) [
          | inl turned ↦ inl (record { own = λ _. turned; other = λ none. absurd (none own) })
          | inr not_turned ↦ inr (λ is. not_turned (is.own own))
        ]
    | inr other ↦ elim (decide.same_value (w x.to) (w x.from)) [
      | inl kept ↦ inl (record { own = λ same. absurd (other same); other = λ _. kept })
      | inr not_kept ↦ inr (λ is. not_kept (is.other other))
    ]
  ]

  -- no arc switches the signal
  NoneOwn : Type 0
  NoneOwn = (x : Edge) → Contains g.edges x → x.event.sig ≡ a → ⊥

  none_own : Decided NoneOwn
  unfolding NoneOwn
  none_own = decide.all_of (λ x. x.event.sig ≡ a → ⊥) (λ x. decide.not (cases_eq x.event.sig a)) g.edges

  AllZero : Type 0
  AllZero = (s : ℕ) → s < g.states → w s ≡ false

  all_zero : Decided AllZero
  unfolding AllZero
  all_zero = decide.all_below (λ s. w s ≡ false) (λ s. decide.same_value (w s) false) g.states

  -- where no arc switches it, it is 0 everywhere
  zero_if_idle : Decided (IsIdle g a → AllZero)
  unfolding NoneOwn
  zero_if_idle = elim none_own [
    | inr some ↦ inl (λ idle. absurd (some (λ x there own. idle x.from x.event x.to there own)))
    | inl none ↦ elim all_zero [
      | inl zeros ↦ inl (λ _. zeros)
      | inr not_zeros ↦ inr (λ zeros. not_zeros (zeros (λ s e t step own. none (arc s e t) step own)))
    ]
  ]

  values_from : ((x : Edge) → Contains g.edges x → Suits x) → (IsIdle g a → AllZero) → AreValues g a w
  unfolding AllZero
  values_from suit zeros = record {
    rises = λ s t step. (suit (arc s (rise a) t) step).own refl;
    falls = λ s t step. (suit (arc s (fall a) t) step).own refl;
    keeps = λ s t e other step. (suit (arc s e t) step).other other;
    idle = zeros;
  }

  suit_from : AreValues g a w → (x : Edge) → Contains g.edges x → Suits x
  suit_from are x there = record {
    own = λ own.
        let step : Step g x.from (record { sig = a; up = x.event.up }) x.to =
        subst (λ (n : ℕ). Step g x.from (record { sig = n; up = x.event.up }) x.to) own there in
        let old = old_value g a w x.from x.to x.event.up are step in
        (old, turns g a w x.from x.to x.event.up are step ∙ ap not old ∙ twice x.event.up);
    other = λ other. are.keeps x.from x.to x.event other there;
  }
    where
      twice : (b : Bool) → not (not b) ≡ b
      twice true = refl
      twice false = refl

  pub are_values : Decided (AreValues g a w)
  unfolding AllZero
  are_values = elim (decide.all_of Suits suits g.edges) [
    | inr not_all ↦ inr (λ are. not_all (suit_from are))
    | inl all ↦ elim zero_if_idle [
      | inl zeros ↦ inl (values_from all zeros)
      | inr not_zeros ↦ inr (λ are. not_zeros are.idle)
    ]
  ]

-- ---- whether there are values
module _ (g : StateGraph) (is : IsGraph g) (connected : IsConnected g) where
  -- whether the signal has switched an odd number of times on a way to s
  turned_at : (a s : ℕ) → (s < g.states) ⊎ (g.states ≤ s) → Bool
  turned_at a s (inl below) = bit (parity (connected s below).0) a
  turned_at a s (inr past) = false

  -- the values that follow from the one at the start
  abbrev values_after : ℕ → Bool → ℕ → Bool
  values_after a first s = turn (turned_at a s (cases_lt s g.states)) first

  follow : (a : ℕ) (v : ℕ → Bool) → AreValues g a v → (s : ℕ) (o : (s < g.states) ⊎ (g.states ≤ s)) → s < g.states
      → turn (turned_at a s o) (v g.start) ≡ v s
  unfolding turned_at
  follow a v are s (inl below) within =
      sym (values_along g a v g.start (connected s below).0 s are (connected s below).1)
  follow a v are s (inr past) within = absurd (omega arith)

  values_follow : (a : ℕ) (v : ℕ → Bool) → AreValues g a v → AreValues g a (values_after a (v g.start))
  values_follow a v are =
      values_as g a v (values_after a (v g.start)) is (λ s within. follow a v are s (cases_lt s g.states) within) are

  pub has_values : (a : ℕ) → Decided (HasValues g a)
  has_values a = elim (are_values g a (values_after a true)) [
    | inl high ↦ inl (values_after a true, high)
    | inr not_high ↦ elim (are_values g a (values_after a false)) [
      | inl low ↦ inl (values_after a false, low)
      | inr not_low ↦ inr (λ (v, are). elim (cases_Bool (v g.start)) [
        | inl high ↦ not_high (subst (λ (b : Bool). AreValues g a (values_after a b)) high (values_follow a v are))
        | inr low ↦ not_low (subst (λ (b : Bool). AreValues g a (values_after a b)) low (values_follow a v are))
      ])
    ]
  ]

  -- the first n signals have values, or there is a first without
  first_below : (n : ℕ) → n ≤ length g.signals
      → ((a : ℕ) → a < n → HasValues g a) ⊎ ((a : ℕ) × IsFirstWithoutValues g a)
  first_below zero within = inl (λ a below. absurd (omega arith))
  first_below (suc n) within = elim (first_below n (omega arith)) [
    | inr first ↦ inr first
    | inl before ↦ elim (has_values n) [
      | inr none ↦ inr (n, record { within = omega arith; none = none; before = before })
      | inl here ↦ inl (λ a below. elim (cases_order a n) [
        | inl same ↦ subst (HasValues g) (sym same) here
        | inr (inl less) ↦ before a less
        | inr (inr more) ↦ absurd (omega arith)
      ])
    ]
  ]

  pub consistent_or_first : IsConsistent g ⊎ ((a : ℕ) × IsFirstWithoutValues g a)
  consistent_or_first = first_below (length g.signals) (omega arith)
