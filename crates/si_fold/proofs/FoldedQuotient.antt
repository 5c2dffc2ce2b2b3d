-- A graph whose states stand for classes of states of another one, which nothing tells apart.
use Rattle.std.proofs.Common.{◌≡◌, ℕ, ◌<◌, sym, ◌∙◌, inl, inr}
use Rattle.std.proofs.lemmas.Bool.{cases_Bool, true≢false}
use Rattle.si_base.specs.declared.ids.Event.{Event}
use Rattle.si_base.specs.Graph.{Step, enables}
use Rattle.si_base.specs.Codes.{CodedGraph, code}
use Rattle.si_base.proofs.GraphSteps.{enables-step, step_from_enables}

-- each state of c stands in a class, a state of d with its code and its steps
pub record IsQuotient (c d : CodedGraph) (class : ℕ → ℕ) : Type 0 where
  pub start_is : class c.graph.start ≡ d.graph.start
  pub codes : (s : ℕ) → s < c.graph.states → code d (class s) ≡ code c s
  pub forth : (s : ℕ) (e : Event) (t : ℕ) → Step c.graph s e t → Step d.graph (class s) e (class t)
  pub back : (s : ℕ) (e : Event) (j : ℕ) → s < c.graph.states → Step d.graph (class s) e j
      → (t : ℕ) × Step c.graph s e t × (class t ≡ j)

-- a state and its class enable the same events
pub enables_same : (c d : CodedGraph) (class : ℕ → ℕ) → IsQuotient c d class → (s : ℕ) (e : Event) → s < c.graph.states
    → enables c.graph s e ≡ enables d.graph (class s) e
enables_same c d class q s e within = elim (cases_Bool (enables c.graph s e)) [
  | inl here ↦ (
      let step = step_from_enables c.graph s e here in
      here ∙ sym (enables-step d.graph (class s) e (class step.0) (q.forth s e step.0 step.1)))
  | inr not_here ↦ elim (cases_Bool (enables d.graph (class s) e)) [
    | inl there ↦ (
        let step = step_from_enables d.graph (class s) e there in
        let lifted = q.back s e step.0 within step.1 in
        absurd (true≢false (sym (enables-step c.graph s e lifted.0 lifted.1) ∙ not_here)))
    | inr not_there ↦ not_here ∙ sym not_there
  ]
]
