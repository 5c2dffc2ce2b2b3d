use Rattle.std.proofs.Common.{◌∙◌, ap, sym}
use Rattle.std.proofs.lemmas.Bool.{true≢false}
use Rattle.si_base.specs.Graph.{StateGraph}
use Rattle.si_base.proofs.BitFacts.{bit-zero}
use Rattle.si_bounds.proofs.KeptLemmas.{all_kept, goes_past, keeps_one, none_before}
use Rattle.si_bounds.proofs.kept.kept_triggers.Goals as goal

pub loop-a-init : goal.loop-a-init
loop-a-init c = none_before c.args.coded.now c.args.classes.now c.args.z c.arcs-a-items.result.now 0 bit-zero

pub loop-a-preserved-then-not-keeps_trigger : goal.loop-a-preserved-then-not-keeps_trigger
loop-a-preserved-then-not-keeps_trigger c =
    let edges = c.arcs-a-items.ensures.arcs ∙ ap (λ (g : StateGraph). g.edges) c.graph.ensures.same in
    goes_past c.args.coded.now c.args.classes.now c.args.z c.arcs-a-items.result.now edges c.loop-a.a-index
    c.a-item.result c.loop-a-test.true c.a-item.is c.loop-a.kept c.loop-a.invariant
    (λ keeps. true≢false (sym (c.keeps_trigger.ensures.1 keeps) ∙ c.if-not-keeps_trigger.true))

pub loop-a-preserved : goal.loop-a-preserved
loop-a-preserved c =
    let edges = c.arcs-a-items.ensures.arcs ∙ ap (λ (g : StateGraph). g.edges) c.graph.ensures.same in
    keeps_one c.args.coded.now c.args.classes.now c.args.z c.arcs-a-items.result.now edges c.loop-a.a-index
    c.a-item.result c.loop-a-test.true c.a-item.is c.loop-a.kept c.loop-a.invariant
    (c.keeps_trigger.ensures.0 c.if-not-keeps_trigger.false) c.set-kept.result c.set-kept.ensures

pub returns : goal.returns
returns c =
    let edges = c.arcs-a-items.ensures.arcs ∙ ap (λ (g : StateGraph). g.edges) c.graph.ensures.same in
    all_kept c.args.coded.now c.args.classes.now c.args.z c.arcs-a-items.result.now edges c.loop-a.kept
    c.loop-a.a-index c.loop-a-test.false c.loop-a.invariant
