-- Pairs of events whose two orders end apart: those at a state, one pair of events after another.
use Rattle.std.proofs.Common.{◌≡◌, ℕ, ◌<◌, ◌≤◌, List, [], ◌∷◌, ◌++◌, length, get_or, Contains, refl, sym}
use Rattle.std.proofs.Common.{ap, subst, ◌∙◌, arith, inl, inr}
use Rattle.std.proofs.lemmas.Bool.{cases_order}
use Rattle.si_base.specs.declared.ids.Event.{Event}
use Rattle.si_base.specs.Graph.{StateGraph, Step, IsGraph, event_place}
use Rattle.si_base.specs.Codes.{IsDeterministic}
use Rattle.si_base.specs.Order.{Before, IsFirst}
use Rattle.si_base.specs.Proper.{Fork, Forks, fork_place, pair_place}
use Rattle.si_base.proofs.GraphSteps.{enables-step}
use Rattle.si_base.proofs.OrderLemmas.{before_itself}
use Rattle.si_base.proofs.StepCodes.{step_within}
use Rattle.si_breaches.specs.Breaches.{IsFirstFork, fork_ends}
use Rattle.si_breaches.specs.Loops.Breaches.{ForksAt, ForksOf, ForksBy}
use Rattle.si_breaches.specs.Loops.Steps.{AreEnabled, AreEndsApart}
use Rattle.si_graph.proofs.OrderLemmas.{event_from_place}
use Rattle.si_told.specs.Loops.Search.{Adds}
use Rattle.si_told.proofs.Alls.{adds_none, adds_one, adds_same}

pub same_fork : (x y : Fork) → x.s ≡ y.s → x.a ≡ y.a → x.c ≡ y.c → x.w ≡ y.w → x.w2 ≡ y.w2 → x ≡ y
same_fork x y state first second one other =
    λ i. record { s = state i; a = first i; c = second i; w = one i; w2 = other i }

pub moved : (g : StateGraph) (s r : ℕ) (e f : Event) (t : ℕ) → s ≡ r → e ≡ f → Step g s e t → Step g r f t
moved g s r e f t state event step =
    subst (λ (k : ℕ). Step g k f t) state (subst (λ (h : Event). Step g s h t) event step)

-- what the place of a fork tells
pub parts_of : (x y : Fork) → fork_place x ≡ fork_place y → (x.s ≡ y.s) × (x.a ≡ y.a) × (x.c ≡ y.c)
parts_of x y same =
    let state : x.s ≡ y.s = cc in
    let one : event_place x.a ≡ event_place y.a = cc in
    let other : event_place x.c ≡ event_place y.c = cc in
    (state, event_from_place x.a y.a one, event_from_place x.c y.c other)

pub place_of : (x y : Fork) → x.s ≡ y.s → x.a ≡ y.a → x.c ≡ y.c → fork_place x ≡ fork_place y
place_of x y state first second = λ i. state i ∷ event_place (first i) ∷ event_place (second i) ∷ []

-- of one state and two events one fork is told
pub one_told : (g : StateGraph) (x y : Fork) → IsFirstFork g x → IsFirstFork g y → fork_place x ≡ fork_place y → x ≡ y
one_told g x y p q same =
    let parts = parts_of x y same in
    same_fork x y parts.0 parts.1 parts.2 (equal_ends.0) (equal_ends.1)
  where
    equal_ends : (x.w ≡ y.w) × (x.w2 ≡ y.w2)
    equal_ends = elim (cases_order x.w y.w) [
      | inl tied ↦ elim (cases_order x.w2 y.w2) [
        | inl also ↦ (tied, also)
        | inr (inl less) ↦ absurd (q.first x p.forks same (inr (tied, inl less)))
        | inr (inr more) ↦ absurd (p.first y q.forks (sym same) (inr (sym tied, inl more)))
      ]
      | inr (inl less) ↦ absurd (q.first x p.forks same (inl less))
      | inr (inr more) ↦ absurd (p.first y q.forks (sym same) (inl more))
    ]

-- in a deterministic graph the state and the events tell the fork
pub one_fork : (g : StateGraph) → IsDeterministic g → (x y : Fork) → Forks g x → Forks g y → x.s ≡ y.s → x.a ≡ y.a
    → x.c ≡ y.c → x ≡ y
one_fork g one x y p q state first second = same_fork x y state first second ends others
  where
    middle : p.one.0 ≡ q.one.0
    middle = one y.s y.a p.one.0 q.one.0 (moved g x.s y.s x.a y.a p.one.0 state first p.one.1) q.one.1

    ends : x.w ≡ y.w
    ends = one q.one.0 y.c x.w y.w (moved g p.one.0 q.one.0 x.c y.c x.w middle second p.one.2) q.one.2

    corner : p.other.0 ≡ q.other.0
    corner = one y.s y.c p.other.0 q.other.0 (moved g x.s y.s x.c y.c p.other.0 state second p.other.1) q.other.1

    others : x.w2 ≡ y.w2
    others = one q.other.0 y.a x.w2 y.w2 (moved g p.other.0 q.other.0 x.a y.a x.w2 corner first p.other.2) q.other.2

pub forks_are_first : (g : StateGraph) (b : Fork) → IsDeterministic g → Forks g b → IsFirstFork g b
forks_are_first g b one forks = record {
  forks = forks;
  first = λ x also same before. (
      let parts = parts_of x b same in
      let equal : x ≡ b = one_fork g one x b also forks parts.0 parts.1 parts.2 in
      before_itself (fork_ends b) (subst (λ (y : Fork). Before (fork_ends y) (fork_ends b)) equal before));
}

-- ---- two events
module _ (g : StateGraph) (s : ℕ) (a c : Event) where
  abbrev pub fork_with : ℕ × ℕ → Fork
  fork_with ends = record { s = s; a = a; c = c; w = ends.0; w2 = ends.1 }

  -- a fork of these is two ends apart
  ends_of : (x : Fork) → Forks g x → x.s ≡ s → x.a ≡ a → x.c ≡ c → AreEndsApart g s a c (x.w, x.w2)
  ends_of x forks state first second = record {
    one = (
      forks.one.0,
      moved g x.s s x.a a forks.one.0 state first forks.one.1,
      moved g forks.one.0 forks.one.0 x.c c x.w refl second forks.one.2,
    );
    other = (
      forks.other.0,
      moved g x.s s x.c c forks.other.0 state second forks.other.1,
      moved g forks.other.0 forks.other.0 x.a a x.w2 refl first forks.other.2,
    );
    apart = forks.apart;
  }

  pub first_by : (ends : ℕ × ℕ) → event_place a < event_place c → IsFirst pair_place (AreEndsApart g s a c) ends
      → IsFirstFork g (fork_with ends)
  first_by ends order is = record {
    forks = record { order = order; one = is.holds.one; other = is.holds.other; apart = is.holds.apart };
    first = λ x forks same before. (
        let parts = parts_of x (fork_with ends) same in
        is.none_before (x.w, x.w2) (ends_of x forks parts.0 parts.1 parts.2) before);
  }

  pub none_by : ((ends : ℕ × ℕ) → AreEndsApart g s a c ends → ⊥) → (b : Fork) → ForksBy g s a c b → ⊥
  none_by none b (((fork, state), first), second) =
      none (b.w, b.w2) (ends_of b fork.forks state first (sym second))

  -- it is one of those of the events
  pub of_here : (b : Fork) (old new : List Fork) → ForksBy g s a c b → new ≡ old ++ b ∷ []
      → Adds fork_place (ForksBy g s a c) old new
  of_here b old new by pushed = adds_one fork_place (ForksBy g s a c) old new b by
      (λ d also. one_told g b d by.0.0.0 also.0.0.0 (place_of b d (by.0.0.1 ∙ sym also.0.0.1) (by.0.1 ∙ sym also.0.1)
      (sym by.1 ∙ also.1))) pushed

  pub of_pass : (old : List Fork) → ((b : Fork) → ForksBy g s a c b → ⊥) → Adds fork_place (ForksBy g s a c) old old
  of_pass old none = adds_none fork_place (ForksBy g s a c) old none

-- ---- the events that a state enables
module _ (g : StateGraph) (s : ℕ) (events : List Event) (are : AreEnabled g s events) where
  pub rises : (i j : ℕ) (d : Event) → i < j → j < length events
      → event_place (get_or events i d) < event_place (get_or events j d)
  rises i j d before within = elim (are.in_order i j d before within) [
    | inl less ↦ less
    | inr rest ↦ absurd rest.1
  ]

  pub of_order : (a : Event) (i j : ℕ) (d : Event) → i < j → j < length events → (x y : Fork)
      → ForksOf g s a x → ForksOf g s a y → get_or events i d ≡ x.c → get_or events j d ≡ y.c
      → Before (fork_place x) (fork_place y)
  of_order a i j d before within x y p q first later =
      let rise = rises i j d before within in
      inr (
        p.0.1 ∙ sym q.0.1,
        inr (
          ap event_place (p.1 ∙ sym q.1),
          inl (omega (arith, rise, ap event_place first, ap event_place later)),
        ),
      )

  pub at_order : (i j : ℕ) (d : Event) → i < j → j < length events → (x y : Fork) → ForksAt g s x → ForksAt g s y
      → get_or events i d ≡ x.a → get_or events j d ≡ y.a → Before (fork_place x) (fork_place y)
  at_order i j d before within x y p q first later =
      let rise = rises i j d before within in
      inr (p.1 ∙ sym q.1, inl (omega (arith, rise, ap event_place first, ap event_place later)))

  there : (e : Event) (r t : ℕ) → r ≡ s → Step g r e t → Contains events e
  there e r t state step = (are.exactly e).1 (enables-step g s e t (moved g r s e e t state refl step))

  pub of_each : (a : Event) (b : Fork) → ForksOf g s a b → (c : Event) × Contains events c × (c ≡ b.c)
  of_each a b p = (b.c, there b.c b.s p.0.0.forks.other.0 p.0.1 p.0.0.forks.other.1, refl)

  pub at_each : (b : Fork) → ForksAt g s b → (a : Event) × Contains events a × (a ≡ b.a)
  at_each b p = (b.a, there b.a b.s p.0.forks.one.0 p.1 p.0.forks.one.1, refl)

-- ---- one event, and all states
pub at_here : (g : StateGraph) (s : ℕ) (a : Event) (old new : List Fork) → Adds fork_place (ForksOf g s a) old new
    → Adds fork_place (λ b. ForksAt g s b × (a ≡ b.a)) old new
at_here g s a old new adds = adds_same fork_place (ForksOf g s a) (λ b. ForksAt g s b × (a ≡ b.a)) old new
    (λ b p. (p.0, sym p.1)) (λ b p. (p.0, sym p.1)) adds

pub state_order : (g : StateGraph) (x y : Fork) → IsFirstFork g x → IsFirstFork g y → x.s < y.s
    → Before (fork_place x) (fork_place y)
state_order g x y p q less = inl less

pub state_within : (g : StateGraph) (n : ℕ) → IsGraph g → g.states ≤ n → (b : Fork) → IsFirstFork g b → b.s < n
state_within g n is all b fork =
    let within = step_within g b.s b.a fork.forks.one.0 is fork.forks.one.1 in omega (arith, within.0)
