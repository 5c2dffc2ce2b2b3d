use Rattle.std.proofs.Common.{◌≡◌, ◌∙◌, ℕ, List, ap, sym, subst, Contains}
use Rattle.std.proofs.lemmas.Bool.{true≢false}
use Rattle.si_base.specs.Graph.{StateGraph}
use Rattle.si_base.specs.declared.graph.Edge.{Edge}
use Rattle.si_base.proofs.StepCodes.{step_within}
use Rattle.si_match.proofs.TriggerLemmas.{IsWithin, arc_trigger, both_set, one_more_found}
use Rattle.si_match.proofs.TriggerLemmas.{one_more_trigger, set_keeps}
use Rattle.si_match.proofs.triggers.triggers_of.Goals as goal
use Rattle.si_match.proofs.triggers.triggers_of.Goals.{then-a-2, else-a-2}

pub loop-a-preserved-then-not-changes : goal.loop-a-preserved-then-not-changes
loop-a-preserved-then-not-changes c =
    let so_far = c.loop-a.invariant in
    record {
      triggers = so_far.triggers;
      found = one_more_found c.args.coded.now c.args.z c.arcs-a-items.result.now c.loop-a.a-index c.a-item.result
          c.loop-a.signals c.loop-a.signals c.loop-a-test.true c.a-item.is so_far.found (λ i there. there)
          (λ changes. absurd (true≢false (sym (c.changes.ensures.1 changes) ∙ c.if-not-changes.true)));
      rising = so_far.rising;
      falling = so_far.falling;
      within = so_far.within;
    }

pub loop-a-preserved : goal.loop-a-preserved
loop-a-preserved c =
    let a = c.a-item.result in
    let z = c.args.z in
    let coded = c.args.coded.now in
    let so_far = c.loop-a.invariant in
    let edges : c.arcs-a-items.result.now ≡ coded.graph.edges =
    c.arcs-a-items.ensures.arcs ∙ ap (λ (g : StateGraph). g.edges) c.graph-graph.ensures.same in
    let there : Contains coded.graph.edges a =
    subst (λ (es : List Edge). Contains es a) edges (c.loop-a.a-index, c.loop-a-test.true, sym c.a-item.is) in
    let within = step_within coded.graph a.from a.event a.to c.graph-graph.ensures.coded.graph_is there in
    let (other, differs) = c.changes.ensures.0 c.if-not-changes.false in
    let trigger = arc_trigger coded z a there other differs in
    let more = set_keeps c.loop-a.signals a.event.sig c.set-signals.result c.set-signals.ensures in
    let WithinSignals : ℕ → Type 0 = λ few. IsWithin few c.set-signals.result in
    record {
      triggers = one_more_trigger coded z a.event.sig c.loop-a.signals c.set-signals.result trigger
          c.set-signals.ensures so_far.triggers;
      found = one_more_found coded z c.arcs-a-items.result.now c.loop-a.a-index a c.loop-a.signals
          c.set-signals.result c.loop-a-test.true c.a-item.is so_far.found more
          (λ changes. c.set-signals.ensures.there);
      rising = elim c.if-a-2.branch [
        | then-a-2 w ↦ subst WithinSignals (sym w.rising-is) (both_set c.loop-a.rising c.loop-a.signals a.event.sig
            w.set-rising.result c.set-signals.result so_far.rising w.set-rising.ensures c.set-signals.ensures)
        | else-a-2 w ↦ subst WithinSignals (sym w.rising-is) (λ i set. more i (so_far.rising i set))
      ];
      falling = elim c.if-a-2.branch [
        | then-a-2 w ↦ subst WithinSignals (sym w.falling-is) (λ i set. more i (so_far.falling i set))
        | else-a-2 w ↦ subst WithinSignals (sym w.falling-is) (both_set c.loop-a.falling c.loop-a.signals a.event.sig
            w.set-falling.result c.set-signals.result so_far.falling w.set-falling.ensures c.set-signals.ensures)
      ];
      within = c.add_ends.ensures coded.graph.states within.0 within.2 so_far.within;
    }
