-- The least set that is closed under the rules is that of the states that switch.
use Rattle.std.proofs.Common.{◌≡◌, ℕ, ◌<◌, ◌⊎◌, Bool, true, false, not, List, [], ◌∷◌, length, refl, sym, subst, ◌∙◌}
use Rattle.std.proofs.Common.{inl, inr, ap, arith}
use Rattle.si_base.specs.declared.ids.Event.{Event}
use Rattle.si_base.specs.Graph.{StateGraph, IsGraph, Step}
use Rattle.si_base.proofs.StepCodes.{step_within}
use Rattle.si_base.specs.Sets.{IsIn}
use Rattle.si_divisor.specs.Switching.{Switches}
use Rattle.si_divisor.specs.Loops.SwitchRules.{AllIn, Among, IsClosed, InEach, IsCrossed, IsBefore, IsAfterInput, IsLow}
use Rattle.si_divisor.specs.Loops.SwitchRules.{ExitsLow, ExitsHigh, SwitchRule, Crossed, Preceding, ByInput, Low, Both}
use Rattle.si_divisor.specs.Loops.SwitchRules.{Belongs}
use Rattle.si_divisor.specs.Loops.SwitchRules.{FollowsByRule, BeforeIt, AfterIt, AtExit, WithFirst, WithOther}
use Rattle.si_divisor.specs.Targets.{IsLeast, target}

-- ---- for any rules
-- what is in each closed set follows so
pub each_on : (n : ℕ) (R : List ℕ → ℕ → Type 0) (ps : List ℕ) (t : ℕ) → R ps t
    → ((set : List Bool) → length set ≡ n → IsClosed R set → AllIn set ps) → InEach n R t
each_on n R ps t rule all set size closed = closed ps t rule (all set size closed)

-- the least set for the one is that for the other, if both are met by the same sets
pub least_same : (n : ℕ) (P Q : List Bool → Type 0) (set : List Bool) → ((x : List Bool) → P x → Q x)
    → ((x : List Bool) → Q x → P x) → IsLeast n P set → IsLeast n Q set
least_same n P Q set to back a = record {
  size = a.size;
  meets = to set a.meets;
  least = λ other size q. a.least other size (back other q);
}

-- ---- states that switch
not_empty : (u : ℕ) (us : List ℕ) → [] ≡ u ∷ us → ⊥
not_empty u us h = (let k = ap (λ (xs : List ℕ). length xs) h in omega (arith, k))

pub low_or_high : (high : List Bool) (s : ℕ) → IsLow high s ⊎ IsIn high s
low_or_high high s = either (target high s)
  where
    either : (b : Bool) → (b ≡ false) ⊎ (b ≡ true)
    either true = inr refl
    either false = inl refl

switches_if : (g : StateGraph) (high set : List Bool) → IsClosed (SwitchRule g high) set
    → Switches g (target high) true set
switches_if g high set closed = record {
  entered = λ s e t step low there.
      closed [] t (Crossed refl (record { s = s; e = e; step = step; low = low; there = there })) tt;
  before = λ s e t step in_t there.
      closed (t ∷ []) s (Preceding t refl (record { e = e; step = step; there = there })) (in_t, tt);
  inputs = λ s e t step input in_s.
      closed (s ∷ []) t (ByInput s refl (record { e = e; step = step; input = input })) (in_s, tt);
  exits = λ s a c t u w d in_u may. elim (low_or_high high s) [
    | inl low ↦ closed (u ∷ []) w
        (Low u refl (record { s = s; t = t; joins = record { a = a; c = c; diamond = d }; low = low })) (in_u, tt)
    | inr there ↦ elim may [
      | inl low ↦ closed (u ∷ []) w
          (Low u refl (record { s = s; t = t; joins = record { a = a; c = c; diamond = d }; low = low })) (in_u, tt)
      | inr both ↦ closed (u ∷ t ∷ []) w
          (Both u t refl (record { s = s; joins = record { a = a; c = c; diamond = d }; there = there }))
          (in_u, (both.1, tt))
    ]
  ];
}

pub closed_if_switches : (g : StateGraph) (high set : List Bool) → Switches g (target high) true set
    → IsClosed (SwitchRule g high) set
closed_if_switches g high set x ps w (Crossed none r) all = x.entered r.s r.e w r.step r.low r.there
closed_if_switches g high set x ps w (Preceding u one r) all =
    x.before w r.e u r.step (subst (λ k. AllIn set k) one all).0 r.there
closed_if_switches g high set x ps w (ByInput s one r) all =
    x.inputs s r.e w r.step r.input (subst (λ k. AllIn set k) one all).0
closed_if_switches g high set x ps w (Low u one r) all =
    x.exits r.s r.joins.a r.joins.c r.t u w r.joins.diamond (subst (λ k. AllIn set k) one all).0 (inl r.low)
closed_if_switches g high set x ps w (Both u t two r) all =
    let there : AllIn set (u ∷ t ∷ []) = subst (λ k. AllIn set k) two all in
    x.exits r.s r.joins.a r.joins.c t u w r.joins.diamond there.0
    (inr (x.before r.s r.joins.c u r.joins.diamond.other there.0 r.there, there.1.0))

-- a closed set of states that belong is the least one
pub least_switches : (g : StateGraph) (high set : List Bool) → length set ≡ g.states
    → ((t : ℕ) → IsIn set t → Belongs g high t) → IsClosed (SwitchRule g high) set
    → IsLeast g.states (Switches g (target high) true) set
least_switches g high set size belong closed =
    least_same g.states (IsClosed (SwitchRule g high)) (Switches g (target high) true) set (switches_if g high)
    (closed_if_switches g high)
    (record { size = size; meets = closed; least = λ other same rules s there. belong s there other same rules })

-- a rule without premises
pub first_rule : (g : StateGraph) (high : List Bool) (t : ℕ) → SwitchRule g high [] t → IsCrossed g high t
first_rule g high t (Crossed none r) = r
first_rule g high t (Preceding u one r) = absurd (not_empty u [] one)
first_rule g high t (ByInput u one r) = absurd (not_empty u [] one)
first_rule g high t (Low u one r) = absurd (not_empty u [] one)
first_rule g high t (Both u v two r) = absurd (not_empty u (v ∷ []) two)

-- a rule of which x is a premise follows from x and what else is marked
pub fires_at : (g : StateGraph) (high marks : List Bool) (x : ℕ) (ps : List ℕ) (t : ℕ) → SwitchRule g high ps t
    → Among x ps → AllIn marks ps → FollowsByRule g high marks x t
fires_at g high marks x ps t (Crossed none r) among all = absurd (subst (λ k. Among x k) none among)
fires_at g high marks x ps t (Preceding u one r) among all = elim (subst (λ k. Among x k) one among) [
  | inl same ↦ BeforeIt (subst (λ k. IsBefore g high k t) same r)
  | inr none ↦ absurd none
]
fires_at g high marks x ps t (ByInput s one r) among all = elim (subst (λ k. Among x k) one among) [
  | inl same ↦ AfterIt (subst (λ k. IsAfterInput g k t) same r)
  | inr none ↦ absurd none
]
fires_at g high marks x ps t (Low u one r) among all = elim (subst (λ k. Among x k) one among) [
  | inl same ↦ AtExit (subst (λ k. ExitsLow g high k t) same r)
  | inr none ↦ absurd none
]
fires_at g high marks x ps t (Both u v two r) among all =
    let there : AllIn marks (u ∷ v ∷ []) = subst (λ k. AllIn marks k) two all in
    elim (subst (λ k. Among x k) two among) [
      | inl same ↦ WithFirst v there.1.0 (subst (λ k. ExitsHigh g high v k t) same r)
      | inr (inl same) ↦ WithOther u there.0 (subst (λ k. ExitsHigh g high k u t) same r)
      | inr (inr none) ↦ absurd none
    ]

-- ---- the states that switch to 0 are those that switch to 1 where the other states are high
module _ (g : StateGraph) (ones zeros : List Bool) (graph : IsGraph g)
    (opposed : (s : ℕ) → s < g.states → target zeros s ≡ not (target ones s)) where
  from_below : (s : ℕ) (e : Event) (t : ℕ) → Step g s e t → s < g.states
  from_below s e t step = (step_within g s e t graph step).0

  to_below : (s : ℕ) (e : Event) (t : ℕ) → Step g s e t → t < g.states
  to_below s e t step = (step_within g s e t graph step).2

  to_zero : (s : ℕ) → s < g.states → target zeros s ≡ true → target ones s ≡ false
  to_zero s below is = flipped (target ones s) (sym (opposed s below) ∙ is)
    where
      flipped : (b : Bool) → not b ≡ true → b ≡ false
      flipped true h = sym h
      flipped false h = refl

  to_one : (s : ℕ) → s < g.states → target zeros s ≡ false → target ones s ≡ true
  to_one s below is = flipped (target ones s) (sym (opposed s below) ∙ is)
    where
      flipped : (b : Bool) → not b ≡ false → b ≡ true
      flipped true h = refl
      flipped false h = sym h

  from_zero : (s : ℕ) → s < g.states → target ones s ≡ false → target zeros s ≡ true
  from_zero s below is = opposed s below ∙ flipped (target ones s) is
    where
      flipped : (b : Bool) → b ≡ false → not b ≡ true
      flipped true h = sym h
      flipped false h = refl

  from_one : (s : ℕ) → s < g.states → target ones s ≡ true → target zeros s ≡ false
  from_one s below is = opposed s below ∙ flipped (target ones s) is
    where
      flipped : (b : Bool) → b ≡ true → not b ≡ false
      flipped true h = refl
      flipped false h = sym h

  falls_if : (set : List Bool) → Switches g (target zeros) true set → Switches g (target ones) false set
  falls_if set x = record {
    entered = λ s e t step one zero. x.entered s e t step (from_one s (from_below s e t step) one)
        (from_zero t (to_below s e t step) zero);
    before = λ s e t step there zero. x.before s e t step there (from_zero s (from_below s e t step) zero);
    inputs = x.inputs;
    exits = λ s a c t u w d there may. x.exits s a c t u w d there (elim may [
      | inl one ↦ inl (from_one s (from_below s a t d.first) one)
      | inr both ↦ inr both
    ]);
  }

  rises_if : (set : List Bool) → Switches g (target ones) false set → Switches g (target zeros) true set
  rises_if set x = record {
    entered = λ s e t step low high. x.entered s e t step (to_one s (from_below s e t step) low)
        (to_zero t (to_below s e t step) high);
    before = λ s e t step there high. x.before s e t step there (to_zero s (from_below s e t step) high);
    inputs = x.inputs;
    exits = λ s a c t u w d there may. x.exits s a c t u w d there (elim may [
      | inl low ↦ inl (to_one s (from_below s a t d.first) low)
      | inr both ↦ inr both
    ]);
  }

  pub least_falls : (set : List Bool) → IsLeast g.states (Switches g (target zeros) true) set
      → IsLeast g.states (Switches g (target ones) false) set
  least_falls set is = least_same g.states (Switches g (target zeros) true) (Switches g (target ones) false) set
      falls_if rises_if is

  pub least_rises : (set : List Bool) → IsLeast g.states (Switches g (target ones) false) set
      → IsLeast g.states (Switches g (target zeros) true) set
  least_rises set is = least_same g.states (Switches g (target ones) false) (Switches g (target zeros) true) set
      rises_if falls_if is
