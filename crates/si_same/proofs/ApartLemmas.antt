-- The first event that tells two states apart, by those that one of them lacks.
use Rattle.std.proofs.Common.{◌≡◌, ◌≢◌, ℕ, ◌<◌, ◌≤◌, sym, ◌∙◌, arith, inl, inr, Option, Some, None}
use Rattle.std.proofs.lemmas.Bool.{cases_Bool, true≢false}
use Rattle.si_base.specs.declared.ids.Event.{Event}
use Rattle.si_base.specs.Graph.{StateGraph, Step, enables, event_place}
use Rattle.si_base.proofs.GraphSteps.{step_from_enables}
use Rattle.si_same.specs.Loops.Search.{IsLacking, IsFirstLacking, IsFirstLackingOrNone, IsFirstApart}
use Rattle.si_same.specs.Loops.Search.{IsFirstApartOrNone}

pub lacking_step : (f g : StateGraph) (s t : ℕ) (e : Event) → IsLacking f g s t e → (u : ℕ) × Step f s e u
lacking_step f g s t e lacks = step_from_enables f s e lacks.here

module _ (f g : StateGraph) (s t : ℕ) where
  pub same_unless : (e : Event) → (IsLacking f g s t e → ⊥) → (IsLacking g f t s e → ⊥)
      → enables f s e ≡ enables g t e
  same_unless e not_one not_other = elim (cases_Bool (enables f s e)) [
    | inl here ↦ elim (cases_Bool (enables g t e)) [
      | inl there ↦ here ∙ sym there
      | inr not_there ↦ absurd (not_one (record {
        here = here;
        not_there = λ there. true≢false (sym there ∙ not_there);
      }))
    ]
    | inr not_here ↦ elim (cases_Bool (enables g t e)) [
      | inl there ↦ absurd (not_other (record { here = there; not_there = λ here. true≢false (sym here ∙ not_here) }))
      | inr not_there ↦ not_here ∙ sym not_there
    ]
  ]

  one_apart : (e : Event) → IsLacking f g s t e → enables f s e ≢ enables g t e
  one_apart e lacks same = lacks.not_there (sym same ∙ lacks.here)

  other_apart : (e : Event) → IsLacking g f t s e → enables f s e ≢ enables g t e
  other_apart e lacks same = lacks.not_there (same ∙ lacks.here)

  -- the first of those that the one lacks, where the other lacks none before it
  pub first_of_one : (e : Event) → IsFirstLacking f g s t e
      → ((x : Event) → event_place x < event_place e → IsLacking g f t s x → ⊥) → IsFirstApart f g s t e
  first_of_one e is none = record {
    apart = one_apart e is.lacking;
    first = λ x less. same_unless x (is.first x less) (none x less);
  }

  pub first_of_other : (e : Event) → IsFirstLacking g f t s e
      → ((x : Event) → event_place x < event_place e → IsLacking f g s t x → ⊥) → IsFirstApart f g s t e
  first_of_other e is none = record {
    apart = other_apart e is.lacking;
    first = λ x less. same_unless x (none x less) (is.first x less);
  }

  pub only_other : ((e : Event) → IsLacking f g s t e → ⊥) → (found : Option Event)
      → IsFirstLackingOrNone g f t s found → IsFirstApartOrNone f g s t found
  only_other none None is = λ e. same_unless e (none e) (is e)
  only_other none (Some e) is = first_of_other e is (λ x less. none x)

  pub earlier_of_one : (a b : Event) → IsFirstLacking f g s t a → IsFirstLacking g f t s b
      → event_place a ≤ event_place b → IsFirstApart f g s t a
  earlier_of_one a b one other up_to = first_of_one a one (λ x less. other.first x (omega arith))

  pub earlier_of_other : (a b : Event) → IsFirstLacking f g s t a → IsFirstLacking g f t s b
      → event_place b < event_place a → IsFirstApart f g s t b
  earlier_of_other a b one other less = first_of_other b other (λ x before. one.first x (omega arith))
