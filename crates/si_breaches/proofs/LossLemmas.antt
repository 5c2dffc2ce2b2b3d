-- Events that another event disables: those at a state, one event after another.
use Rattle.std.proofs.Common.{◌≡◌, ℕ, ◌+◌, ◌<◌, ◌≤◌, List, [], ◌∷◌, ◌++◌, length, get_or, Contains, IsTrue, true, false}
use Rattle.std.proofs.Common.{refl, sym, ap, subst, ◌∙◌, arith, inl, inr}
use Rattle.std.proofs.lemmas.Bool.{cases_eq, true≢false}
use Rattle.std.proofs.lemmas.List.{get_or_default}
use Rattle.si_base.specs.declared.ids.Event.{Event}
use Rattle.si_base.specs.declared.graph.Edge.{Edge}
use Rattle.si_base.specs.Graph.{StateGraph, IsGraph, IsNonInput, arc, enables, event_place, same_event}
use Rattle.si_base.specs.Order.{Before}
use Rattle.si_base.specs.Proper.{Loss, Loses, loss_place}
use Rattle.si_base.proofs.GraphSteps.{enables-step, step_from_enables, same_event-refl}
use Rattle.si_base.proofs.StepCodes.{step_within}
use Rattle.si_breaches.specs.Loops.Breaches.{LosesAt, LosesOf}
use Rattle.si_breaches.specs.Loops.Steps.{AreEnabled, AreKept, IsArcBy, TakesAway}
use Rattle.si_breaches.proofs.ForkLemmas.{moved, rises}
use Rattle.si_breaches.proofs.StepLemmas.{by_item, by_step, step_by}
use Rattle.si_told.specs.All.{AreAll, arc_place}
use Rattle.si_told.specs.Loops.Search.{Adds}
use Rattle.si_told.proofs.Alls.{adds_none, adds_one, adds_same}

pub same_loss : (x y : Loss) → x.s ≡ y.s → x.lost ≡ y.lost → x.by ≡ y.by → x ≡ y
same_loss x y state lost by = λ i. record { s = state i; lost = lost i; by = by i }

-- ---- whether an event takes another away
pub apart_events : (by lost : Event) → false ≡ same_event by lost → lost ≡ by → ⊥
apart_events by lost told same = true≢false
    (sym (subst (λ (e : Event). same_event e lost ≡ true) same (same_event-refl lost)) ∙ sym told)

module _ (g : StateGraph) (s : ℕ) (lost by : Event) (arcs : List Edge)
    (are : AreAll arc_place (IsArcBy g s by) arcs) where
  pub kept_more : (k : ℕ) (x : Edge) → k < length arcs → x ≡ get_or arcs k x → AreKept g lost arcs k
      → IsTrue (enables g x.to lost) → AreKept g lost arcs (k + 1)
  kept_more k x within at so_far here j d less = elim (cases_eq j k) [
    | inl same ↦ subst (λ (n : ℕ). IsTrue (enables g (get_or arcs n d).to lost)) (sym same)
        (subst (λ (y : Edge). IsTrue (enables g y.to lost)) (at ∙ get_or_default arcs k x d within) here)
    | inr other ↦ so_far j d (omega arith)
  ]

  pub taken : (k : ℕ) (x : Edge) → k < length arcs → x ≡ get_or arcs k x → (lost ≡ by → ⊥)
      → (IsTrue (enables g x.to lost) → ⊥) → TakesAway g s lost by
  taken k x within at another gone = record {
    another = another;
    after = (x.to, by_step g s by arcs are x (by_item g s by arcs are k x within at), gone);
  }

  pub not_taken : (k : ℕ) → length arcs ≤ k → AreKept g lost arcs k → TakesAway g s lost by → ⊥
  not_taken k all kept takes =
      let t : ℕ = takes.after.0 in
      let a : Edge = arc s by t in
      let there = step_by g s by arcs are t takes.after.1 in
      takes.after.2 (subst (λ (x : Edge). IsTrue (enables g x.to lost)) there.2
      (kept there.0 a (omega (arith, there.1, all))))

-- ---- two events
module _ (g : StateGraph) (s : ℕ) (lost by : Event) where
  pub of_here : (old new : List Loss) → IsNonInput g.signals lost.sig → IsTrue (enables g s lost)
      → TakesAway g s lost by → new ≡ old ++ (record { s = s; lost = lost; by = by }) ∷ []
      → Adds loss_place (λ b. LosesOf g s lost b × (by ≡ b.by)) old new
  of_here old new driven enabled takes pushed = adds_one loss_place (λ b. LosesOf g s lost b × (by ≡ b.by)) old new
      (record { s = s; lost = lost; by = by }) holds
      (λ b p. same_loss _ b (sym p.0.0.1) (sym p.0.1) p.1) pushed
    where
      holds : LosesOf g s lost (record { s = s; lost = lost; by = by }) × (by ≡ by)
      holds = (
        (
          (
            record { non_input = driven; enabled = enabled; by_another = takes.another; after = takes.after },
            refl,
          ),
          refl,
        ),
        refl,
      )

  pub of_pass : (old : List Loss) → (TakesAway g s lost by → ⊥)
      → Adds loss_place (λ b. LosesOf g s lost b × (by ≡ b.by)) old old
  of_pass old not_so = adds_none loss_place (λ b. LosesOf g s lost b × (by ≡ b.by)) old (λ b p. not_so (takes b p))
    where
      takes : (b : Loss) → LosesOf g s lost b × (by ≡ b.by) → TakesAway g s lost by
      takes b (((loses, state), same), cause) = record {
        another = λ equal. loses.by_another (same ∙ equal ∙ cause);
        after = (
          loses.after.0,
          moved g b.s s b.by by loses.after.0 state (sym cause) loses.after.1,
          λ still. loses.after.2 (subst (λ (e : Event). IsTrue (enables g loses.after.0 e)) (sym same) still),
        );
      }

-- ---- the events that a state enables
module _ (g : StateGraph) (s : ℕ) (events : List Event) (are : AreEnabled g s events) where
  pub of_order : (lost : Event) (i j : ℕ) (d : Event) → i < j → j < length events → (x y : Loss)
      → LosesOf g s lost x → LosesOf g s lost y → get_or events i d ≡ x.by → get_or events j d ≡ y.by
      → Before (loss_place x) (loss_place y)
  of_order lost i j d before within x y p q first later =
      let rise = rises g s events are i j d before within in
      inr (
        p.0.1 ∙ sym q.0.1,
        inr (
          ap event_place (p.1 ∙ sym q.1),
          inl (omega (arith, rise, ap event_place first, ap event_place later)),
        ),
      )

  pub at_order : (i j : ℕ) (d : Event) → i < j → j < length events → (x y : Loss) → LosesAt g s x → LosesAt g s y
      → get_or events i d ≡ x.lost → get_or events j d ≡ y.lost → Before (loss_place x) (loss_place y)
  at_order i j d before within x y p q first later =
      let rise = rises g s events are i j d before within in
      inr (p.1 ∙ sym q.1, inl (omega (arith, rise, ap event_place first, ap event_place later)))

  pub of_each : (lost : Event) (b : Loss) → LosesOf g s lost b → (e : Event) × Contains events e × (e ≡ b.by)
  of_each lost b p =
      let t : ℕ = p.0.0.after.0 in
      let step = moved g b.s s b.by b.by t p.0.1 refl p.0.0.after.1 in
      (b.by, (are.exactly b.by).1 (enables-step g s b.by t step), refl)

  pub at_each : (b : Loss) → LosesAt g s b → (e : Event) × Contains events e × (e ≡ b.lost)
  at_each b p =
      (b.lost, (are.exactly b.lost).1 (subst (λ (k : ℕ). IsTrue (enables g k b.lost)) p.1 p.0.enabled), refl)

  -- the event at a place is enabled, and of a signal
  pub enabled_at : (k : ℕ) (e : Event) → k < length events → e ≡ get_or events k e → IsTrue (enables g s e)
  enabled_at k e within at = (are.exactly e).0 (k, within, sym at)

  pub signal_at : (k : ℕ) (e : Event) → IsGraph g → k < length events → e ≡ get_or events k e
      → e.sig < length g.signals
  signal_at k e is within at =
      let to = step_from_enables g s e (enabled_at k e within at) in (step_within g s e to.0 is to.1).1

-- ---- one event, and all states
pub at_here : (g : StateGraph) (s : ℕ) (lost : Event) (old new : List Loss) → Adds loss_place (LosesOf g s lost) old new
    → Adds loss_place (λ b. LosesAt g s b × (lost ≡ b.lost)) old new
at_here g s lost old new adds = adds_same loss_place (LosesOf g s lost) (λ b. LosesAt g s b × (lost ≡ b.lost)) old new
    (λ b p. (p.0, sym p.1)) (λ b p. (p.0, sym p.1)) adds

pub at_pass : (g : StateGraph) (s : ℕ) (lost : Event) (old : List Loss) → (IsNonInput g.signals lost.sig → ⊥)
    → Adds loss_place (λ b. LosesAt g s b × (lost ≡ b.lost)) old old
at_pass g s lost old input = adds_none loss_place (λ b. LosesAt g s b × (lost ≡ b.lost)) old
    (λ b p. input (subst (λ (e : Event). IsNonInput g.signals e.sig) (sym p.1) p.0.0.non_input))

pub state_order : (g : StateGraph) (x y : Loss) → Loses g x → Loses g y → x.s < y.s
    → Before (loss_place x) (loss_place y)
state_order g x y p q less = inl less

pub state_within : (g : StateGraph) (n : ℕ) → IsGraph g → g.states ≤ n → (b : Loss) → Loses g b → b.s < n
state_within g n is all b loses =
    let within = step_within g b.s b.by loses.after.0 is loses.after.1 in omega (arith, within.0)
