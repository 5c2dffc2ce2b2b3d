-- Which events walks take.
use Rattle.std.proofs.Common.{◌≡◌, ℕ, ◌<◌, Bool, true, false, not, ◌↔◌, IsTrue, ◌∙◌, sym, refl, ap, subst, arith, List}
use Rattle.std.proofs.Common.{[], length, get_or, inl, inr, Some, slice_get}
use Rattle.std.proofs.lemmas.Bool.{cases_lt, true≢false}
use Rattle.std.proofs.lemmas.Option.{slice_get-get_or, slice_get_within, same_Some}
use Rattle.si_base.specs.declared.ids.Event.{Event}
use Rattle.si_base.specs.declared.graph.Signal.{Signal}
use Rattle.si_base.specs.declared.graph.SigKind.{SigKind}
use Rattle.si_base.specs.declared.graph.SigKind.TheVariants.{Input, Output, Internal, Inserted}
use Rattle.si_base.specs.Graph.{StateGraph, IsNonInput, is_driven}
use Rattle.si_insert.specs.Accepted.{IsInput}
use Rattle.si_checks.proofs.SearchDecisions.{Decided, driven}
use Rattle.si_walks.specs.declared.arcs.Arcs.{Arcs}
use Rattle.si_walks.specs.declared.arcs.Arcs.TheVariants.{All, OfInputs}
use Rattle.si_walks.specs.Walks.{Takes}

input_kind : (kind : SigKind) → (is_driven kind ≡ true → ⊥) → kind ≡ Input
input_kind Input none = refl
input_kind Output none = absurd (none refl)
input_kind Internal none = absurd (none refl)
input_kind Inserted none = absurd (none refl)

-- an input isn't driven, and what is not driven is an input
pub input_not_driven : (signals : List Signal) (z : ℕ) → IsInput signals z → IsNonInput signals z → ⊥
input_not_driven signals z (x, at, input) (y, also, driven) =
    let same : x ≡ y = same_Some x y (sym at ∙ also) in
    let kind : is_driven x.kind ≡ true = subst (λ (w : Signal). is_driven w.kind ≡ true) (sym same) driven in
    true≢false (sym kind ∙ ap is_driven input)

pub input_if_not_driven : (signals : List Signal) (z : ℕ) → z < length signals → (IsNonInput signals z → ⊥)
    → IsInput signals z
input_if_not_driven signals z within none =
    let blank : Signal = record { name = []; kind = Input } in
    let x : Signal = get_or signals z blank in
    let at : slice_get signals z ≡ Some x = slice_get-get_or signals z blank within in
    (x, at, input_kind x.kind (λ driven. none (x, at, driven)))

pub taken : (g : StateGraph) (arcs : Arcs) (e : Event) → Decided (Takes g arcs e)
taken g All e = inl tt
taken g OfInputs e = elim (driven g.signals e.sig) [
  | inl is ↦ inr (λ input. input_not_driven g.signals e.sig input is)
  | inr is_not ↦ elim (cases_lt e.sig (length g.signals)) [
    | inl within ↦ inl (input_if_not_driven g.signals e.sig within is_not)
    | inr past ↦ inr (λ input. absurd (omega (arith, slice_get_within g.signals e.sig input.0 input.1)))
  ]
]

-- what the code tests
pub takes_inputs : (g : StateGraph) (arcs : Arcs) (e : Event) (driven : Bool) → arcs ≡ OfInputs
    → e.sig < length g.signals → (IsTrue driven ↔ IsNonInput g.signals e.sig) → IsTrue (not driven) ↔ Takes g arcs e
takes_inputs g arcs e true same small is = (
  λ no. absurd (true≢false (sym no)),
  λ takes. absurd
      (input_not_driven g.signals e.sig (subst (λ (k : Arcs). Takes g k e) same takes) (is.0 refl)),
)
takes_inputs g arcs e false same small is = (
  λ yes. subst (λ (k : Arcs). Takes g k e) (sym same)
      (input_if_not_driven g.signals e.sig small (λ non_input. true≢false (sym (is.1 non_input)))),
  λ takes. refl,
)
