-- Arcs by inputs, and arcs by other signals.
use Rattle.std.proofs.Common.{◌≡◌, ◌≢◌, ℕ, ◌<◌, ◌⊎◌, true, false, List, length, slice_get, Some}
use Rattle.std.proofs.Common.{refl, sym, ap, subst, ◌∙◌, arith, inl, inr}
use Rattle.std.proofs.lemmas.Bool.{true≢false}
use Rattle.std.proofs.lemmas.Option.{slice_get_cases}
use Rattle.si_base.specs.declared.ids.Event.{Event}
use Rattle.si_base.specs.declared.graph.Signal.{Signal}
use Rattle.si_base.specs.declared.graph.SigKind.{SigKind}
use Rattle.si_base.specs.declared.graph.SigKind.TheVariants.{Input, Output, Internal, Inserted}
use Rattle.si_base.specs.Graph.{IsNonInput, is_driven, same_event}
use Rattle.si_base.proofs.GraphSteps.{same_event-refl}

-- signal a is there, and of that kind
abbrev pub IsOfKind : SigKind → List Signal → ℕ → Type 0
IsOfKind kind signals a = (x : Signal) × (slice_get signals a ≡ Some x) × (x.kind ≡ kind)

input_drives : (x : Signal) → x.kind ≡ Input → is_driven x.kind ≡ true → ⊥
input_drives x input driven = true≢false (sym driven ∙ ap is_driven input)

pub input_is_no_other : (signals : List Signal) (a : ℕ) → IsOfKind Input signals a → IsNonInput signals a → ⊥
input_is_no_other signals a (x, at, input) (y, also, driven) =
    let same : x ≡ y = cc in
    input_drives y (subst (λ (z : Signal). z.kind ≡ Input) same input) driven

kind_or_input : (kind : SigKind) → (kind ≡ Input) ⊎ (is_driven kind ≡ true)
kind_or_input Input = inl refl
kind_or_input Output = inr refl
kind_or_input Internal = inr refl
kind_or_input Inserted = inr refl

pub input_or_not : (signals : List Signal) (a : ℕ) → a < length signals
    → IsOfKind Input signals a ⊎ IsNonInput signals a
input_or_not signals a inside = elim (slice_get_cases signals a).1 [
  | inl found ↦ at found.0 found.2 (kind_or_input found.0.kind)
  | inr past ↦ absurd (omega arith)
]
  where
    at : (x : Signal) → slice_get signals a ≡ Some x → (x.kind ≡ Input) ⊎ (is_driven x.kind ≡ true)
        → IsOfKind Input signals a ⊎ IsNonInput signals a
    at x there (inl input) = inl (x, there, input)
    at x there (inr driven) = inr (x, there, driven)

pub apart_events : (e f : Event) → false ≡ same_event e f → e ≢ f
apart_events e f not_same same =
    let P : Event → Type 0 = λ x. false ≡ same_event e x in
    true≢false (sym (same_event-refl e) ∙ sym (subst P (sym same) not_same))
