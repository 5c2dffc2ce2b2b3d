use Rattle.std.proofs.Common.{◌≡◌, ◌∙◌, ◌++◌, ◌∷◌, [], ap, rules}
use Rattle.si_base.specs.Proper.{Loss, loss_place}
use Rattle.si_checks.proofs.ForkOrder.{out_signal, out_item}
use Rattle.si_lint.specs.Loops.Withdrawals.{WithdrawsOf, IsOfCause}
use Rattle.si_told.proofs.Alls.{first_none, first_more, first_all}
use Rattle.si_lint.proofs.WithdrawalLemmas.{of_order, of_here, of_pass, of_each}
use Rattle.si_lint.proofs.withdrawals.add_of.Goals as goal
use Rattle.si_lint.proofs.withdrawals.add_of.Goals.{in-Some+in_ok-push, in_default}

pub withdrawal_by-requires : goal.withdrawal_by-requires
withdrawal_by-requires c = out_signal c.args.graph.now c.args.s c.arcs_out-arcs.result.now c.arcs_out-arcs.ensures
    c.loop-y.y-index c.y-item.result c.loop-y-test.true c.y-item.is

pub loop-y-init : goal.loop-y-init
loop-y-init c = first_none loss_place (WithdrawsOf c.args.graph.now c.args.kind.now c.args.s c.args.lost)
    IsOfCause c.arcs_out-arcs.result.now (of_order c.args.graph.now c.args.s
    c.arcs_out-arcs.result.now c.arcs_out-arcs.ensures c.requires.deterministic c.args.kind.now c.args.lost)
    c.args.found.now.items

pub loop-y-preserved : goal.loop-y-preserved
loop-y-preserved c =
    let g = c.args.graph.now in
    let s = c.args.s in
    let arcs = c.arcs_out-arcs.result.now in
    let out = c.arcs_out-arcs.ensures in
    let one = c.requires.deterministic in
    let by = c.args.kind.now in
    let lost = c.args.lost in
    let y = c.y-item.result in
    let old = c.loop-y.found.items in
    let step = out_item g s arcs out c.loop-y.y-index y c.loop-y-test.true c.y-item.is in
    let more = first_more loss_place (WithdrawsOf g by s lost) IsOfCause arcs
    (of_order g s arcs out one by lost) c.loop-y.y-index y c.args.found.now.items old in
    elim c.match-withdrawal_by.branch [
      | in-Some+in_ok-push w ↦ (
          let new : c.match-withdrawal_by.found.items ≡ w.push.new.self.items = search rules in
          more c.match-withdrawal_by.found.items c.loop-y-test.true c.y-item.is c.loop-y.invariant
          (of_here g s arcs out one by lost y old c.match-withdrawal_by.found.items c.requires.lost
          c.requires.enabled step w.in-Some.ensures.1
          (new ∙ w.in_ok-push.ensures.items ∙ ap (λ (b : Loss). old ++ b ∷ []) w.in-Some.ensures.0)))
      | in_default w ↦ (
          let kept : c.match-withdrawal_by.found.items ≡ old = search rules in
          rw kept (more old c.loop-y-test.true c.y-item.is c.loop-y.invariant
          (of_pass g s arcs out one by lost y old step w.in_default.ensures)))
    ]

pub returns : goal.returns
returns c =
    let g = c.args.graph.now in
    let s = c.args.s in
    let arcs = c.arcs_out-arcs.result.now in
    let out = c.arcs_out-arcs.ensures in
    let one = c.requires.deterministic in
    let by = c.args.kind.now in
    first_all loss_place (WithdrawsOf g by s c.args.lost) IsOfCause arcs
    (of_order g s arcs out one by c.args.lost) c.loop-y.y-index c.args.found.now.items c.loop-y.found.items
    c.loop-y-test.false (of_each g s arcs out one by c.args.lost) c.loop-y.invariant
