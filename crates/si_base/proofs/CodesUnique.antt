-- A graph has one code for each state.
use Rattle.std.proofs.Common.{◌≡◌, ◌≢◌, ℕ, ◌⊎◌, ◌<◌, ◌==◌, Bool, List, length, sym, ap, subst, ◌∙◌, inl, inr}
use Rattle.std.proofs.Common.{eqb-true, eq-eqb}
use Rattle.std.proofs.lemmas.Bool.{cases_Bool, cases_lt, true≢false}
use Rattle.std.proofs.lemmas.List.Folds.{list_any_at, Any-from_list_any}
use Rattle.std.specs.List.{list_any}
use Rattle.si_base.specs.declared.ids.Event.{Event}
use Rattle.si_base.specs.declared.graph.Edge.{Edge}
use Rattle.si_base.specs.Bits.{bit}
use Rattle.si_base.specs.Graph.{StateGraph, Step, arc}
use Rattle.si_base.specs.Codes.{AreValues, IsIdle, CodedGraph, IsCoded, IsConnected, code}
use Rattle.si_base.proofs.BitFacts.{same_codes}
use Rattle.si_base.proofs.StepCodes.{step_within, code_fits, no_bit}
use Rattle.si_base.proofs.CodeParity.{values_along, start_shown, parity, turn}

-- some arc switches a, or none does
switched_or_idle : (g : StateGraph) (a : ℕ)
    → ((s : ℕ) × (up : Bool) × (t : ℕ) × Step g s (record { sig = a; up = up }) t) ⊎ IsIdle g a
switched_or_idle g a = elim (cases_Bool (list_any (λ x. x.event.sig == a) g.edges)) [
  | inl found ↦ (
      let any = Any-from_list_any (λ (x : Edge). x.event.sig == a) g.edges found in
      let x : Edge = any.1 in
      let same : x.event.sig ≡ a = eqb-true _ _ any.4 in
      let there : Step g x.from x.event x.to = (any.0, any.2, any.3) in
      let At : ℕ → Type 0 = λ n. Step g x.from (record { sig = n; up = x.event.up }) x.to in
      inl (x.from, x.event.up, x.to, subst At same there))
  | inr none ↦ inr (λ s e t step same. true≢false
      (sym (list_any_at (λ (x : Edge). x.event.sig == a) g.edges step.0 (arc s e t) step.1
      (ap (λ (x : Edge). x.event.sig == a) step.2 ∙ eq-eqb _ _ same)) ∙ none))
]

-- a signal has one value at each reachable state
pub value_unique : (g : StateGraph) (a : ℕ) (v w : ℕ → Bool) (s : ℕ) → IsConnected g
    → ((p : ℕ) (e : Event) (q : ℕ) → Step g p e q → p < g.states) → AreValues g a v → AreValues g a w → s < g.states
    → v s ≡ w s
value_unique g a v w s connected within one other there = elim (switched_or_idle g a) [
  | inl arc_of ↦ (
      let from = connected arc_of.0 (within arc_of.0 _ arc_of.2 arc_of.3) in
      let start : v g.start ≡ w g.start = start_shown g a v arc_of.0 arc_of.2 arc_of.1 from.0 one arc_of.3 from.1
      ∙ sym (start_shown g a w arc_of.0 arc_of.2 arc_of.1 from.0 other arc_of.3 from.1) in
      let along = connected s there in
      values_along g a v g.start along.0 s one along.1 ∙ ap (turn (bit (parity along.0) a)) start
      ∙ sym (values_along g a w g.start along.0 s other along.1))
  | inr idle ↦ one.idle idle s there ∙ sym (other.idle idle s there)
]

pub code_unique : (c d : CodedGraph) (s : ℕ) → IsCoded c → IsCoded d → c.graph ≡ d.graph → s < c.graph.states
    → code c s ≡ code d s
code_unique c d s is also same there = go d.graph d.codes same also
  where
    go : (g : StateGraph) (codes : List ℕ) → c.graph ≡ g → IsCoded (record { graph = g; codes = codes })
        → code c s ≡ code (record { graph = g; codes = codes }) s
    go g codes equal coded =
        let Of : StateGraph → Type 0 = λ h. IsCoded (record { graph = h; codes = codes }) in
        let e : CodedGraph = record { graph = c.graph; codes = codes } in
        let here : IsCoded e = subst Of (sym equal) coded in
        same_codes (code c s) (code e s) (λ i. elim (cases_lt i (length c.graph.signals)) [
          | inl below ↦ value_unique c.graph i (λ k. bit (code c k) i) (λ k. bit (code e k) i) s is.connected
              (λ p f q step. (step_within c.graph p f q is.graph_is step).0) (is.values i below) (here.values i below)
              there
          | inr above ↦ no_bit _ _ i (code_fits c s is there) above
              ∙ sym (no_bit _ _ i (code_fits e s here there) above)
        ])
