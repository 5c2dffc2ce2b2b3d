use Rattle.std.proofs.Common.{◌≤◌, ◌∙◌, length, ap, arith}
use Rattle.si_base.specs.Graph.{StateGraph}
use Rattle.si_base.specs.Codes.{CodedGraph}
use Rattle.si_checks.specs.Loops.Lent.{coded_of}
use Rattle.si_map.proofs.SearchFitted.{none_before, input_passed, signal_added, all_fitted}
use Rattle.si_map.proofs.fitted.fitted_signals.Goals as goal

pub loop-i-init : goal.loop-i-init
loop-i-init c = none_before (coded_of c.args.graph) c.args.library.now 0

pub loop-i-preserved-then-not-is_driven : goal.loop-i-preserved-then-not-is_driven
loop-i-preserved-then-not-is_driven c =
    let known = c.graph-known.ensures.same ∙ ap (λ (d : CodedGraph). d.graph)
    (c.coded.ensures.same ∙ c.proper.ensures.same) in
    input_passed (coded_of c.args.graph) c.args.library.now c.loop-i.i c.loop-i.fitted c.graph-known.result.now
    c.is_driven.result known c.is_driven.ensures c.if-not-is_driven.true c.loop-i.invariant

pub loop-i-preserved : goal.loop-i-preserved
loop-i-preserved c =
    signal_added (coded_of c.args.graph) c.args.library.now c.loop-i.i c.loop-i.fitted c.set-fitted.result
    c.fits.result c.set-fitted.ensures c.fits.ensures c.loop-i.invariant

pub returns : goal.returns
returns c =
    let d = coded_of c.args.graph in
    let known = c.graph-known.ensures.same ∙ ap (λ (e : CodedGraph). e.graph)
    (c.coded.ensures.same ∙ c.proper.ensures.same) in
    let count = ap length (c.signals-i-end.ensures ∙ ap (λ (g : StateGraph). g.signals) known) in
    let past : length d.graph.signals ≤ c.loop-i.i = omega (arith, c.loop-i-test.false, count) in
    all_fitted d c.args.library.now c.loop-i.i c.loop-i.fitted past c.loop-i.invariant
