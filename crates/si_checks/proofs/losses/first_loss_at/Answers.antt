use Rattle.si_base.proofs.GraphSteps.{enables-step}
use Rattle.si_base.specs.Proper.{Loses}
use Rattle.si_checks.specs.Loops.Searches.{LosesAt}
use Rattle.si_checks.proofs.ForkOrder.{out_item, out_signal, none_at_all}
use Rattle.si_checks.proofs.LossLemmas.{at_step}
use Rattle.si_checks.proofs.SearchLemmas.{first_at}
use Rattle.si_checks.proofs.losses.first_loss_at.Goals as goal

pub is_driven-requires : goal.is_driven-requires
is_driven-requires c = out_signal c.args.graph.now c.args.s c.arcs_out-arcs.result.now c.arcs_out-arcs.ensures
    c.loop-x.x-index c.x-item.result c.loop-x-test.true c.x-item.is

pub first_loss_of-requires-clause-enabled : goal.first_loss_of-requires-clause-enabled
first_loss_of-requires-clause-enabled c =
    let x = c.x-item.result in
    enables-step c.args.graph.now c.args.s x.event x.to (out_item c.args.graph.now c.args.s c.arcs_out-arcs.result.now
    c.arcs_out-arcs.ensures c.loop-x.x-index x c.loop-x-test.true c.x-item.is)

pub returns-in-Some : goal.returns-in-Some
returns-in-Some c =
    first_at (Loses c.args.graph.now) (λ b. b.s) (λ b. b.lost) (λ b. b.by) c.args.graph.now c.args.s
    c.arcs_out-arcs.result.now c.arcs_out-arcs.ensures (at_step c.args.graph.now c.args.s)
    c.in-Some.loss c.loop-x.x-index c.x-item.result c.loop-x-test.true c.x-item.is c.in-Some.ensures c.loop-x.invariant

pub returns : goal.returns
returns c =
    let g = c.args.graph.now in
    none_at_all g c.args.s c.arcs_out-arcs.result.now c.arcs_out-arcs.ensures (LosesAt g c.args.s) (λ b. b.lost)
    (at_step g c.args.s) c.loop-x.x-index c.loop-x-test.false c.loop-x.invariant
