use Rattle.std.proofs.Common.{◌∙◌, sym}
use Rattle.std.proofs.lemmas.Bool.{true≢false}
use Rattle.si_base.specs.Proper.{loss_place}
use Rattle.si_base.proofs.GraphSteps.{enables-step}
use Rattle.si_checks.proofs.ForkOrder.{out_signal, out_item}
use Rattle.si_lint.specs.Loops.Withdrawals.{WithdrawsAt, IsOfLost}
use Rattle.si_told.proofs.Alls.{first_none, first_more, first_all}
use Rattle.si_lint.proofs.WithdrawalLemmas.{at_order, at_here, at_pass, at_each}
use Rattle.si_lint.proofs.withdrawals.add_at.Goals as goal

pub is_lost-requires : goal.is_lost-requires
is_lost-requires c = out_signal c.args.graph.now c.args.s c.arcs_out-arcs.result.now c.arcs_out-arcs.ensures
    c.loop-x.x-index c.x-item.result c.loop-x-test.true c.x-item.is

pub add_of-requires-clause-enabled : goal.add_of-requires-clause-enabled
add_of-requires-clause-enabled c =
    let x = c.x-item.result in
    enables-step c.args.graph.now c.args.s x.event x.to (out_item c.args.graph.now c.args.s c.arcs_out-arcs.result.now
    c.arcs_out-arcs.ensures c.loop-x.x-index x c.loop-x-test.true c.x-item.is)

pub loop-x-init : goal.loop-x-init
loop-x-init c = first_none loss_place (WithdrawsAt c.args.graph.now c.args.kind.now c.args.s)
    IsOfLost c.arcs_out-arcs.result.now (at_order c.args.graph.now c.args.s
    c.arcs_out-arcs.result.now c.arcs_out-arcs.ensures c.requires c.args.kind.now) c.args.found.now.items

pub loop-x-preserved-then-not-is_lost : goal.loop-x-preserved-then-not-is_lost
loop-x-preserved-then-not-is_lost c =
    let g = c.args.graph.now in
    let arcs = c.arcs_out-arcs.result.now in
    let out = c.arcs_out-arcs.ensures in
    let by = c.args.kind.now in
    let x = c.x-item.result in
    let old = c.loop-x.found.items in
    first_more loss_place (WithdrawsAt g by c.args.s) IsOfLost arcs
    (at_order g c.args.s arcs out c.requires by) c.loop-x.x-index x c.args.found.now.items old old c.loop-x-test.true
    c.x-item.is c.loop-x.invariant
    (at_pass g c.args.s arcs out c.requires by x old
    (λ lost. true≢false (sym (c.is_lost.ensures.1 lost) ∙ c.if-not-is_lost.true)))

pub loop-x-preserved : goal.loop-x-preserved
loop-x-preserved c =
    let g = c.args.graph.now in
    let arcs = c.arcs_out-arcs.result.now in
    let out = c.arcs_out-arcs.ensures in
    let by = c.args.kind.now in
    let x = c.x-item.result in
    let old = c.loop-x.found.items in
    first_more loss_place (WithdrawsAt g by c.args.s) IsOfLost arcs
    (at_order g c.args.s arcs out c.requires by) c.loop-x.x-index x c.args.found.now.items old _ c.loop-x-test.true
    c.x-item.is c.loop-x.invariant (at_here g c.args.s arcs out c.requires by x old _ c.in_ok-add_of.ensures)

pub returns : goal.returns
returns c =
    let g = c.args.graph.now in
    let arcs = c.arcs_out-arcs.result.now in
    let out = c.arcs_out-arcs.ensures in
    let by = c.args.kind.now in
    first_all loss_place (WithdrawsAt g by c.args.s) IsOfLost arcs
    (at_order g c.args.s arcs out c.requires by) c.loop-x.x-index c.args.found.now.items c.loop-x.found.items
    c.loop-x-test.false (at_each g c.args.s arcs out c.requires by) c.loop-x.invariant
