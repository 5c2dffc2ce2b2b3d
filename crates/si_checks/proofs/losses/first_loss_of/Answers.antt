use Rattle.std.proofs.Common.{sym, refl}
use Rattle.si_base.specs.Proper.{Loses}
use Rattle.si_checks.specs.Loops.Searches.{LosesOf}
use Rattle.si_checks.proofs.ForkOrder.{out_item, one_more, none_at_all}
use Rattle.si_checks.proofs.LossLemmas.{of_step, loss_from, still_enabled, differs}
use Rattle.si_checks.proofs.SearchLemmas.{first_by}
use Rattle.si_checks.proofs.losses.first_loss_of.Goals as goal

pub loop-y-preserved : goal.loop-y-preserved
loop-y-preserved c =
    let g = c.args.graph.now in
    let s = c.args.s in
    let y = c.y-item.result in
    let out = c.arcs_out-arcs.ensures in
    let step = out_item g s c.arcs_out-arcs.result.now out c.loop-y.y-index y c.loop-y-test.true c.y-item.is in
    one_more g s c.arcs_out-arcs.result.now out (LosesOf g s c.args.lost) (λ b. b.by)
    (of_step g s c.args.lost) c.loop-y.y-index y c.loop-y-test.true c.y-item.is c.loop-y.invariant
    (λ b is same. still_enabled g s c.args.lost y.event y.to b c.requires.deterministic step
    (sym c.if-enabled.ensures) is same)

pub returns-in-loop-y : goal.returns-in-loop-y
returns-in-loop-y c =
    let g = c.args.graph.now in
    let s = c.args.s in
    let y = c.y-item.result in
    let out = c.arcs_out-arcs.ensures in
    let step = out_item g s c.arcs_out-arcs.result.now out c.loop-y.y-index y c.loop-y-test.true c.y-item.is in
    first_by (Loses g) (λ b. b.s) (λ b. b.lost) (λ b. b.by) g s c.arcs_out-arcs.result.now out c.args.lost
    (of_step g s c.args.lost) _ c.loop-y.y-index y
    (record {
      holds = loss_from g s c.args.lost y.event y.to c.requires.non_input c.requires.enabled
          (differs y.event c.args.lost c.if-eq.ensures) step (sym c.if-enabled.ensures);
      at = refl;
      by = refl;
    })
    c.loop-y-test.true c.y-item.is refl c.loop-y.invariant

pub returns : goal.returns
returns c =
    let g = c.args.graph.now in
    let s = c.args.s in
    none_at_all g s c.arcs_out-arcs.result.now c.arcs_out-arcs.ensures (LosesOf g s c.args.lost) (λ b. b.by)
    (of_step g s c.args.lost) c.loop-y.y-index c.loop-y-test.false c.loop-y.invariant
