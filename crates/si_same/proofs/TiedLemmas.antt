-- States of two graphs that ties join enable the same events, and lead to states that ties join.
use Rattle.std.proofs.Common.{◌≡◌, ℕ, Bool, true, List, sym, refl, ap, subst, ◌∙◌}
use Rattle.si_base.specs.declared.ids.Event.{Event}
use Rattle.si_base.specs.Graph.{StateGraph, Step, enables}
use Rattle.si_base.specs.Codes.{IsDeterministic}
use Rattle.si_base.proofs.GraphSteps.{enables-step, step_from_enables}
use Rattle.si_same.specs.declared.pairs.Pair.{Pair}
use Rattle.si_same.specs.Loops.Search.{pair_at, Place, One, Other, Tied, by_pair, itself, back, through}

abbrev pub enables_at : StateGraph → StateGraph → Place → Event → Bool
enables_at f g (One s) e = enables f s e
enables_at f g (Other t) e = enables g t e

abbrev pub Leads : StateGraph → StateGraph → Place → Event → Place → Type 0
Leads f g (One s) e (One u) = Step f s e u
Leads f g (One s) e (Other v) = ⊥
Leads f g (Other t) e (One u) = ⊥
Leads f g (Other t) e (Other v) = Step g t e v

leads_enables : (f g : StateGraph) (x : Place) (e : Event) (y : Place) → Leads f g x e y → enables_at f g x e ≡ true
leads_enables f g (One s) e (One u) leads = enables-step f s e u leads
leads_enables f g (One s) e (Other v) leads = absurd leads
leads_enables f g (Other t) e (One u) leads = absurd leads
leads_enables f g (Other t) e (Other v) leads = enables-step g t e v leads

enables_leads : (f g : StateGraph) (x : Place) (e : Event) → enables_at f g x e ≡ true → (y : Place) × Leads f g x e y
enables_leads f g (One s) e enabled = let step = step_from_enables f s e enabled in (One step.0, step.1)
enables_leads f g (Other t) e enabled = let step = step_from_enables g t e enabled in (Other step.0, step.1)

leads_one : (f g : StateGraph) → IsDeterministic f → IsDeterministic g → (x : Place) (e : Event) (y z : Place)
    → Leads f g x e y → Leads f g x e z → y ≡ z
leads_one f g f_one g_one (One s) e (One u) (One v) one other = ap One (f_one s e u v one other)
leads_one f g f_one g_one (One s) e (One u) (Other v) one other = absurd other
leads_one f g f_one g_one (One s) e (Other u) z one other = absurd one
leads_one f g f_one g_one (Other t) e (One u) z one other = absurd one
leads_one f g f_one g_one (Other t) e (Other u) (One v) one other = absurd other
leads_one f g f_one g_one (Other t) e (Other u) (Other v) one other = ap Other (g_one t e u v one other)

-- ---- what ties keep
pub tied_wider : (pairs : List Pair) (Q R : ℕ → Type 0) → ((k : ℕ) → Q k → R k) → {x y : Place} → Tied pairs Q x y
    → Tied pairs R x y
tied_wider pairs Q R wider (by_pair k q) = by_pair k (wider k q)
tied_wider pairs Q R wider (itself x) = itself x
tied_wider pairs Q R wider (back r) = back (tied_wider pairs Q R wider r)
tied_wider pairs Q R wider (through r q) = through (tied_wider pairs Q R wider r) (tied_wider pairs Q R wider q)

pub tied_among_more : (old new : List Pair) (Q : ℕ → Type 0) → ((k : ℕ) → Q k → pair_at new k ≡ pair_at old k)
    → {x y : Place} → Tied old Q x y → Tied new Q x y
tied_among_more old new Q same (by_pair k q) =
    let Both : Pair → Type 0 = λ p. Tied new Q (One p.one) (Other p.other) in subst Both (same k q) (by_pair k q)
tied_among_more old new Q same (itself x) = itself x
tied_among_more old new Q same (back r) = back (tied_among_more old new Q same r)
tied_among_more old new Q same (through r q) =
    through (tied_among_more old new Q same r) (tied_among_more old new Q same q)

-- a number for each place that is the same for both of each pair is the same for tied ones
pub same_number : (pairs : List Pair) (Q : ℕ → Type 0) (class : Place → ℕ)
    → ((k : ℕ) → Q k → class (One (pair_at pairs k).one) ≡ class (Other (pair_at pairs k).other))
    → {x y : Place} → Tied pairs Q x y → class x ≡ class y
same_number pairs Q class same (by_pair k q) = same k q
same_number pairs Q class same (itself x) = refl
same_number pairs Q class same (back r) = sym (same_number pairs Q class same r)
same_number pairs Q class same (through r q) =
    same_number pairs Q class same r ∙ same_number pairs Q class same q

-- the states of each pair with Q enable the same events
abbrev pub HaveSameEvents : StateGraph → StateGraph → List Pair → (ℕ → Type 0) → Type 0
HaveSameEvents f g pairs Q =
    (k : ℕ) → Q k → (e : Event) → enables f (pair_at pairs k).one e ≡ enables g (pair_at pairs k).other e

pub tied_enable : (f g : StateGraph) (pairs : List Pair) (Q : ℕ → Type 0) → HaveSameEvents f g pairs Q
    → {x y : Place} → Tied pairs Q x y → (e : Event) → enables_at f g x e ≡ enables_at f g y e
tied_enable f g pairs Q events (by_pair k q) e = events k q e
tied_enable f g pairs Q events (itself x) e = refl
tied_enable f g pairs Q events (back r) e = sym (tied_enable f g pairs Q events r e)
tied_enable f g pairs Q events (through r q) e =
    tied_enable f g pairs Q events r e ∙ tied_enable f g pairs Q events q e

-- where the targets by e of each pair with Q are tied, so are those of tied states
module _ (f g : StateGraph) (f_one : IsDeterministic f) (g_one : IsDeterministic g) (pairs : List Pair)
    (Q R : ℕ → Type 0) (events : HaveSameEvents f g pairs Q) (e : Event)
    (closed : (k : ℕ) → Q k → (u v : ℕ) → Step f (pair_at pairs k).one e u → Step g (pair_at pairs k).other e v
    → Tied pairs R (One u) (Other v)) where
  pair_leads : (k : ℕ) → Q k → (u v : Place) → Leads f g (One (pair_at pairs k).one) e u
      → Leads f g (Other (pair_at pairs k).other) e v → Tied pairs R u v
  pair_leads k q (One u) (One v) one other = absurd other
  pair_leads k q (One u) (Other v) one other = closed k q u v one other
  pair_leads k q (Other u) v one other = absurd one

  pub tied_lead : {x y : Place} → Tied pairs Q x y → (u v : Place) → Leads f g x e u → Leads f g y e v
      → Tied pairs R u v
  tied_lead (by_pair k q) u v one other = pair_leads k q u v one other
  tied_lead (itself x) u v one other =
      subst (λ z. Tied pairs R u z) (leads_one f g f_one g_one x e u v one other) (itself u)
  tied_lead (back r) u v one other = back (tied_lead r v u other one)
  tied_lead {x} (through {y = m} r q) u v one other =
      let enabled = sym (tied_enable f g pairs Q events r e) ∙ leads_enables f g x e u one in
      let next = enables_leads f g m e enabled in
      through (tied_lead r u next.0 one next.1) (tied_lead q next.0 v next.1 other)
