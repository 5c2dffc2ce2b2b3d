use Rattle.std.proofs.Common.{◌≡◌, ◌≤◌, ◌++◌, ◌∷◌, [], List, length, sym, ap, subst, ◌∙◌, true, false}
use Rattle.si_base.specs.declared.graph.Signal.{Signal}
use Rattle.si_base.specs.Graph.{is_driven}
use Rattle.si_base.specs.Limits.{max_signals}
use Rattle.si_loops.proofs.ArcLemmas.{AreGates, gated_driven, gated_input, gates_more}
use Rattle.si_loops.proofs.arcs.driven.Goals as goal
use Rattle.si_loops.proofs.arcs.driven.Goals.{then-is_driven+in_ok-push, else-is_driven}

pub loop-z-preserved : goal.loop-z-preserved
loop-z-preserved c =
    let signals = c.signals-signals.result.now in
    let few : length signals ≤ max_signals =
    subst (λ (s : List Signal). length s ≤ max_signals) (sym c.signals-signals.ensures.signals)
    c.signals-signals.ensures.netlist.few in
    elim c.if-is_driven.branch [
      | then-is_driven+in_ok-push w ↦
          (let driven : is_driven c.index-signals-z.result.kind ≡ true =
          ap (λ (x : Signal). is_driven x.kind) c.index-signals-z.is ∙ sym c.is_driven.ensures ∙ w.if-is_driven.true in
          let pushed : c.if-is_driven.driven.items ≡ c.loop-z.driven.items ++ c.loop-z.z ∷ [] =
          ap (λ v. v.items) w.driven-is ∙ w.in_ok-push.ensures.items in
          record {
            signals = pushed ∙ gated_driven signals c.loop-z.z c.index-signals-z.result c.loop-z.driven.items
                c.loop-z-test.true c.index-signals-z.is driven c.loop-z.invariant.signals;
            gates = subst (AreGates signals) (sym pushed) (gates_more signals c.loop-z.driven.items c.loop-z.z
                c.index-signals-z.result c.loop-z-test.true few c.index-signals-z.is driven c.loop-z.invariant.gates);
          })
      | else-is_driven w ↦
          (let input : is_driven c.index-signals-z.result.kind ≡ false =
          ap (λ (x : Signal). is_driven x.kind) c.index-signals-z.is ∙ sym c.is_driven.ensures ∙ w.if-is_driven.false in
          let same = ap (λ v. v.items) w.driven-is in
          record {
            signals = same ∙ gated_input signals c.loop-z.z c.index-signals-z.result c.loop-z.driven.items
                c.loop-z-test.true c.index-signals-z.is input c.loop-z.invariant.signals;
            gates = subst (AreGates signals) (sym same) c.loop-z.invariant.gates;
          })
    ]

pub returns-clause-gates : goal.returns-clause-gates
returns-clause-gates c = subst (λ (s : List Signal). AreGates s c.loop-z.driven.items) c.signals-signals.ensures.signals
    c.loop-z.invariant.gates
