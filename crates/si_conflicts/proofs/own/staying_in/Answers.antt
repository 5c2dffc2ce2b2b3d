use Rattle.std.proofs.Common.{◌∙◌, arith, sym}
use Rattle.std.proofs.lemmas.Bool.{true≢false}
use Rattle.si_base.proofs.StepCodes.{step_within}
use Rattle.si_checks.proofs.ForkOrder.{out_item}
use Rattle.si_conflicts.proofs.KeyLemmas.{excited_more, excited_pass}
use Rattle.si_conflicts.proofs.OwnLemmas.{LeadsInto, staying_in_all}
use Rattle.si_conflicts.proofs.own.staying_in.Goals as goal
use Rattle.si_conflicts.proofs.own.staying_in.Goals.{then-leads_into, else-leads_into}

pub leads_into-requires-clause-to : goal.leads_into-requires-clause-to
leads_into-requires-clause-to c =
    let g = c.args.graph.now in
    let a = c.arc-item.result in
    let out = c.arcs_out-arc-items.ensures in
    let step = out_item g c.args.s c.arcs_out-arc-items.result.now out c.loop-arc.arc-index a c.loop-arc-test.true
    c.arc-item.is in
    let within = step_within g c.args.s a.event a.to out.graph step in
    omega (arith, within.2, c.requires.size)

pub leads_into-requires-clause-signal : goal.leads_into-requires-clause-signal
leads_into-requires-clause-signal c =
    let g = c.args.graph.now in
    let a = c.arc-item.result in
    let out = c.arcs_out-arc-items.ensures in
    let step = out_item g c.args.s c.arcs_out-arc-items.result.now out c.loop-arc.arc-index a c.loop-arc-test.true
    c.arc-item.is in
    (step_within g c.args.s a.event a.to out.graph step).1

pub set-staying-requires : goal.set-staying-requires
set-staying-requires c =
    let g = c.args.graph.now in
    let a = c.arc-item.result in
    let out = c.arcs_out-arc-items.ensures in
    let step = out_item g c.args.s c.arcs_out-arc-items.result.now out c.loop-arc.arc-index a c.loop-arc-test.true
    c.arc-item.is in
    let within = step_within g c.args.s a.event a.to out.graph step in
    omega (arith, within.1, out.graph.few_signals)

pub loop-arc-preserved : goal.loop-arc-preserved
loop-arc-preserved c =
    let P = LeadsInto c.args.graph.now c.args.set.now in
    let arcs = c.arcs_out-arc-items.result.now in
    let k = c.loop-arc.arc-index in
    let a = c.arc-item.result in
    elim c.if-leads_into.branch [
      | then-leads_into w ↦ rw w.staying-is
          (excited_more P arcs k a c.loop-arc.staying c.loop-arc-test.true c.arc-item.is c.loop-arc.invariant
          w.set-staying.result (c.leads_into.ensures.0 w.if-leads_into.true) w.set-staying.ensures)
      | else-leads_into w ↦ rw w.staying-is
          (excited_pass P arcs k a c.loop-arc.staying c.loop-arc-test.true c.arc-item.is c.loop-arc.invariant
          (λ is. true≢false (sym (c.leads_into.ensures.1 is) ∙ w.if-leads_into.false)))
    ]

pub returns : goal.returns
returns c = staying_in_all c.args.graph.now c.args.set.now c.args.s c.arcs_out-arc-items.result.now
    c.loop-arc.arc-index c.loop-arc.staying c.arcs_out-arc-items.ensures c.loop-arc-test.false c.loop-arc.invariant
