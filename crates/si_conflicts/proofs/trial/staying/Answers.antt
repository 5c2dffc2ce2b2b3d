use Rattle.std.proofs.Common.{◌∙◌, arith, sym}
use Rattle.std.proofs.lemmas.Bool.{true≢false}
use Rattle.si_base.proofs.StepCodes.{step_within}
use Rattle.si_checks.proofs.ForkOrder.{out_item, out_source}
use Rattle.si_conflicts.proofs.KeyLemmas.{excited_more, excited_pass}
use Rattle.si_conflicts.proofs.ApartStayLemmas.{IsStayingArc, staying_all}
use Rattle.si_conflicts.proofs.trial.staying.Goals as goal
use Rattle.si_conflicts.proofs.trial.staying.Goals.{then-stays, else-stays}

pub stays-requires-clause-from : goal.stays-requires-clause-from
stays-requires-clause-from c =
    let out = c.arcs_out-arc-items.ensures in
    let from = out_source c.args.graph.now c.args.s c.arcs_out-arc-items.result.now out c.loop-arc.arc-index
    c.arc-item.result c.loop-arc-test.true c.arc-item.is in
    omega (arith, from, c.requires.state, c.requires.count)

pub stays-requires-clause-to : goal.stays-requires-clause-to
stays-requires-clause-to c =
    let g = c.args.graph.now in
    let a = c.arc-item.result in
    let out = c.arcs_out-arc-items.ensures in
    let step = out_item g c.args.s c.arcs_out-arc-items.result.now out c.loop-arc.arc-index a c.loop-arc-test.true
    c.arc-item.is in
    let within = step_within g c.args.s a.event a.to out.graph step in
    omega (arith, within.2, c.requires.count)

pub stays-requires-clause-signal : goal.stays-requires-clause-signal
stays-requires-clause-signal c =
    let g = c.args.graph.now in
    let a = c.arc-item.result in
    let out = c.arcs_out-arc-items.ensures in
    let step = out_item g c.args.s c.arcs_out-arc-items.result.now out c.loop-arc.arc-index a c.loop-arc-test.true
    c.arc-item.is in
    (step_within g c.args.s a.event a.to out.graph step).1

pub set-staying-requires : goal.set-staying-requires
set-staying-requires c =
    let g = c.args.graph.now in
    let a = c.arc-item.result in
    let out = c.arcs_out-arc-items.ensures in
    let step = out_item g c.args.s c.arcs_out-arc-items.result.now out c.loop-arc.arc-index a c.loop-arc-test.true
    c.arc-item.is in
    let within = step_within g c.args.s a.event a.to out.graph step in
    omega (arith, within.1, out.graph.few_signals)

pub loop-arc-preserved : goal.loop-arc-preserved
loop-arc-preserved c =
    let P = IsStayingArc c.args.graph.now c.args.classes.now in
    let arcs = c.arcs_out-arc-items.result.now in
    let k = c.loop-arc.arc-index in
    let a = c.arc-item.result in
    elim c.if-stays.branch [
      | then-stays w ↦ rw w.staying-is
          (excited_more P arcs k a c.loop-arc.staying c.loop-arc-test.true c.arc-item.is c.loop-arc.invariant
          w.set-staying.result (c.stays.ensures.0 w.if-stays.true) w.set-staying.ensures)
      | else-stays w ↦ rw w.staying-is
          (excited_pass P arcs k a c.loop-arc.staying c.loop-arc-test.true c.arc-item.is c.loop-arc.invariant
          (λ is. true≢false (sym (c.stays.ensures.1 is) ∙ w.if-stays.false)))
    ]

pub returns : goal.returns
returns c = staying_all c.args.graph.now c.args.classes.now c.args.s c.arcs_out-arc-items.result.now
    c.loop-arc.arc-index c.loop-arc.staying c.arcs_out-arc-items.ensures c.loop-arc-test.false c.loop-arc.invariant
