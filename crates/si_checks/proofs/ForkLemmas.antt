-- Forks, and the first of them.
use Rattle.std.proofs.Common.{◌≡◌, ℕ, ◌<◌, ◌≤◌, sym, subst, ◌∙◌, arith, inl, inr}
use Rattle.std.proofs.lemmas.Bool.{cases_eq, cases_order}
use Rattle.si_base.specs.declared.ids.Event.{Event}
use Rattle.si_base.specs.Graph.{StateGraph, Step, event_place, IsGraph}
use Rattle.si_base.specs.Codes.{IsDeterministic}
use Rattle.si_base.specs.Proper.{IsCommutative, Fork, Forks}
use Rattle.si_base.specs.System.{IsLeastTarget}
use Rattle.si_base.proofs.StepCodes.{step_within}
use Rattle.si_graph.proofs.OrderLemmas.{event_from_place}
use Rattle.si_checks.specs.Loops.Searches.{EndsApart, ForksAt, ForksBy}

-- ---- forks and the ends that they have
pub by_step : (g : StateGraph) (s : ℕ) (a : Event) (b : Fork) → ForksBy g s a b → (t : ℕ) × Step g s b.c t
by_step g s a b is =
    let P : ℕ → Type 0 = λ x. Step g x b.c is.holds.other.0 in (is.holds.other.0, subst P is.at is.holds.other.1)

pub at_step : (g : StateGraph) (s : ℕ) (b : Fork) → ForksAt g s b → (t : ℕ) × Step g s b.a t
at_step g s b is =
    let P : ℕ → Type 0 = λ x. Step g x b.a is.holds.one.0 in (is.holds.one.0, subst P is.at is.holds.one.1)

pub fork_from : (g : StateGraph) (s : ℕ) (a c : Event) (t u w w2 : ℕ) → Step g s a t
    → Step g s c u → event_place a < event_place c → EndsApart g t c u a (w, w2)
    → Forks g (record { s = s; a = a; c = c; w = w; w2 = w2 })
fork_from g s a c t u w w2 one other order ends = record {
  order = order;
  one = (t, one, ends.one);
  other = (u, other, ends.other);
  apart = ends.apart;
}

pub ends_from : (g : StateGraph) (s : ℕ) (a c : Event) (t u : ℕ) (b : Fork) → IsDeterministic g → Step g s a t
    → Step g s c u → ForksBy g s a b → b.c ≡ c → EndsApart g t c u a (b.w, b.w2)
ends_from g s a c t u b det one other is same =
    let From : ℕ → Event → ℕ → Type 0 = λ x e y. Step g x e y in
    let to_t : Step g s a is.holds.one.0 =
    subst (λ (x : ℕ). Step g x a is.holds.one.0) is.at
    (subst (λ (e : Event). Step g b.s e is.holds.one.0) is.by is.holds.one.1) in
    let to_u : Step g s c is.holds.other.0 =
    subst (λ (x : ℕ). Step g x c is.holds.other.0) is.at
    (subst (λ (e : Event). Step g b.s e is.holds.other.0) same is.holds.other.1) in
    let same_t : is.holds.one.0 ≡ t = det s a is.holds.one.0 t to_t one in
    let same_u : is.holds.other.0 ≡ u = det s c is.holds.other.0 u to_u other in
    record {
      one = subst (λ (x : ℕ). Step g x c b.w) same_t
          (subst (λ (e : Event). Step g is.holds.one.0 e b.w) same is.holds.one.2);
      other = subst (λ (x : ℕ). Step g x a b.w2) same_u
          (subst (λ (e : Event). Step g is.holds.other.0 e b.w2) is.by is.holds.other.2);
      apart = is.holds.apart;
    }

pub ends_meet : (g : StateGraph) (t u : ℕ) (c a : Event) (w w2 : ℕ) → IsDeterministic g → IsLeastTarget g t c w
    → IsLeastTarget g u a w2 → w ≡ w2 → (ends : ℕ × ℕ) → EndsApart g t c u a ends → ⊥
ends_meet g t u c a w w2 det one other same ends is =
    is.apart (det t c ends.0 w is.one one.step ∙ same ∙ det u a w2 ends.1 other.step is.other)

pub no_fork_commutes : (g : StateGraph) → IsDeterministic g → ((b : Fork) → Forks g b → ⊥) → IsCommutative g
no_fork_commutes g det none s a c t w u w2 s_t t_w s_u u_w2 = elim (cases_eq w w2) [
  | inl same ↦ same
  | inr apart ↦ elim (cases_order (event_place a) (event_place c)) [
    | inl tied ↦ (
        let same : a ≡ c = event_from_place a c tied in
        let to_u : Step g s c t = subst (λ (e : Event). Step g s e t) same s_t in
        let targets : t ≡ u = det s c t u to_u s_u in
        let to_w : Step g u a w =
        subst (λ (e : Event). Step g u e w) (sym same) (subst (λ (x : ℕ). Step g x c w) targets t_w) in
        det u a w w2 to_w u_w2)
    | inr (inl less) ↦ absurd (none (record { s = s; a = a; c = c; w = w; w2 = w2 }) (record {
      order = less;
      one = (t, s_t, t_w);
      other = (u, s_u, u_w2);
      apart = apart;
    }))
    | inr (inr more) ↦ absurd (none (record { s = s; a = c; c = a; w = w2; w2 = w }) (record {
      order = more;
      one = (u, s_u, u_w2);
      other = (t, s_t, t_w);
      apart = λ same. apart (sym same);
    }))
  ]
]

pub fork_within : (g : StateGraph) (n : ℕ) → IsGraph g → g.states ≤ n → (b : Fork) → Forks g b → b.s < n
fork_within g n is all b forks =
    let within = step_within g b.s b.a forks.one.0 is forks.one.1 in omega (arith, within.0)
