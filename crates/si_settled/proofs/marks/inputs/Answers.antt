use Rattle.std.proofs.Common.{◌≡◌, ◌<◌, ◌≤◌, ◌++◌, ◌∷◌, [], List, ℕ, All, length, sym, ap, subst, ◌∙◌, arith}
use Rattle.std.proofs.lemmas.List.Elements.{All-push}
use Rattle.si_base.specs.declared.graph.Signal.{Signal}
use Rattle.si_base.specs.Graph.{is_driven}
use Rattle.si_base.specs.Limits.{max_signals}
use Rattle.si_settled.proofs.CodeLemmas.{gate_passed, input_pushed}
use Rattle.si_settled.proofs.marks.inputs.Goals as goal
use Rattle.si_settled.proofs.marks.inputs.Goals.{then-not-is_driven+in_ok-push, else-not-is_driven}

pub loop-z-preserved : goal.loop-z-preserved
loop-z-preserved c =
    let signals = c.signals-signals.result.now in
    let few : length signals ≤ max_signals =
    subst (λ (s : List Signal). length s ≤ max_signals) (sym c.signals-signals.ensures.signals)
    c.signals-signals.ensures.netlist.few in
    let kind = ap (λ (x : Signal). is_driven x.kind) c.index-signals-z.is ∙ sym c.is_driven.ensures in
    elim c.if-not-is_driven.branch [
      | then-not-is_driven+in_ok-push w ↦
          (let pushed : c.if-not-is_driven.inputs.items ≡ c.loop-z.inputs.items ++ c.loop-z.z ∷ [] =
          ap (λ v. v.items) w.inputs-is ∙ w.in_ok-push.ensures.items in
          let small : c.loop-z.z < max_signals = omega (arith, few, c.loop-z-test.true) in
          record {
            inputs = pushed ∙ input_pushed signals c.loop-z.z c.index-signals-z.result c.loop-z.inputs.items
                c.loop-z-test.true c.index-signals-z.is (kind ∙ w.if-not-is_driven.true) c.loop-z.invariant.inputs;
            narrow = subst (All (λ (z : ℕ). z < max_signals)) (sym pushed)
                (All-push (λ (z : ℕ). z < max_signals) c.loop-z.inputs.items c.loop-z.z c.loop-z.invariant.narrow small);
          })
      | else-not-is_driven w ↦
          (let same = ap (λ v. v.items) w.inputs-is in
          record {
            inputs = same ∙ gate_passed signals c.loop-z.z c.index-signals-z.result c.loop-z.inputs.items
                c.loop-z-test.true c.index-signals-z.is (kind ∙ w.if-not-is_driven.false) c.loop-z.invariant.inputs;
            narrow = subst (All (λ (z : ℕ). z < max_signals)) (sym same) c.loop-z.invariant.narrow;
          })
    ]
