-- Losses, and the first of them.
use Rattle.std.proofs.Common.{◌≡◌, ℕ, ◌<◌, ◌≤◌, true, false, sym, subst, ◌∙◌, arith, inl, inr, IsTrue}
use Rattle.std.proofs.lemmas.Bool.{cases_Bool, true≢false}
use Rattle.si_base.specs.declared.ids.Event.{Event}
use Rattle.si_base.specs.Graph.{StateGraph, Step, IsGraph, IsNonInput, enables, same_event}
use Rattle.si_base.specs.Codes.{IsDeterministic}
use Rattle.si_base.specs.Proper.{IsPersistent, Loss, Loses}
use Rattle.si_base.proofs.StepCodes.{step_within}
use Rattle.si_base.proofs.GraphSteps.{step_from_enables, same_event-refl}
use Rattle.si_checks.specs.Loops.Searches.{LosesAt, LosesOf}

-- ---- losses and the steps that they have
pub of_step : (g : StateGraph) (s : ℕ) (lost : Event) (b : Loss) → LosesOf g s lost b → (t : ℕ) × Step g s b.by t
of_step g s lost b is =
    let P : ℕ → Type 0 = λ x. Step g x b.by is.holds.after.0 in (is.holds.after.0, subst P is.at is.holds.after.1)

pub at_step : (g : StateGraph) (s : ℕ) (b : Loss) → LosesAt g s b → (t : ℕ) × Step g s b.lost t
at_step g s b is =
    let P : ℕ → Type 0 = λ x. enables g x b.lost ≡ true in
    step_from_enables g s b.lost (subst P is.at is.holds.enabled)

pub loss_from : (g : StateGraph) (s : ℕ) (lost by : Event) (t : ℕ) → IsNonInput g.signals lost.sig
    → IsTrue (enables g s lost) → (lost ≡ by → ⊥) → Step g s by t → enables g t lost ≡ false
    → Loses g (record { s = s; lost = lost; by = by })
loss_from g s lost by t non_input enabled other step gone = record {
  non_input = non_input;
  enabled = enabled;
  by_another = other;
  after = (t, step, λ still. true≢false (sym still ∙ gone));
}

pub differs : (e f : Event) → false ≡ same_event e f → f ≡ e → ⊥
differs e f not_same same =
    let P : Event → Type 0 = λ x. false ≡ same_event e x in
    true≢false (sym (same_event-refl e) ∙ sym (subst P same not_same))

-- the event by which it is lost leads to a state where it isn't enabled
pub still_enabled : (g : StateGraph) (s : ℕ) (lost by : Event) (t : ℕ) (b : Loss) → IsDeterministic g → Step g s by t
    → enables g t lost ≡ true → LosesOf g s lost b → b.by ≡ by → ⊥
still_enabled g s lost by t b det step still is same =
    let to : Step g s by is.holds.after.0 =
    subst (λ (x : ℕ). Step g x by is.holds.after.0) is.at
    (subst (λ (e : Event). Step g b.s e is.holds.after.0) same is.holds.after.1) in
    let target : t ≡ is.holds.after.0 = det s by t is.holds.after.0 step to in
    is.holds.after.2 (subst (λ (e : Event). enables g is.holds.after.0 e ≡ true) (sym is.by)
    (subst (λ (x : ℕ). enables g x lost ≡ true) target still))

pub no_loss_persists : (g : StateGraph) → ((b : Loss) → Loses g b → ⊥) → IsPersistent g
no_loss_persists g none s e f t non_input enabled step other = elim (cases_Bool (enables g t e)) [
  | inl still ↦ still
  | inr gone ↦
      absurd (none (record { s = s; lost = e; by = f }) (loss_from g s e f t non_input enabled other step gone))
]

pub loss_within : (g : StateGraph) (n : ℕ) → IsGraph g → g.states ≤ n → (b : Loss) → Loses g b → b.s < n
loss_within g n is all b loses =
    let within = step_within g b.s b.by loses.after.0 is loses.after.1 in omega (arith, within.0)
