use Rattle.std.proofs.Common.{◌∙◌, sym, subst}
use Rattle.std.proofs.lemmas.Bool.{true≢false}
use Rattle.si_base.specs.Proper.{loss_place}
use Rattle.si_breaches.specs.Loops.Breaches.{LosesAt, IsOfLost}
use Rattle.si_breaches.specs.Loops.Steps.{AreEnabled}
use Rattle.si_breaches.proofs.LossLemmas.{at_order, at_here, at_pass, at_each, enabled_at, signal_at}
use Rattle.si_told.proofs.Alls.{first_none, first_more, first_all}
use Rattle.si_breaches.proofs.losses.add_at.Goals as goal

pub is_driven-requires : goal.is_driven-requires
is_driven-requires c =
    let g = c.args.graph.now in
    let s = c.args.s in
    let events = c.as_slice-events.result.now in
    let are = subst (AreEnabled g s) (sym c.as_slice-events.ensures.value) c.in_ok-enabled.ensures in
    signal_at g s events are c.loop-lost.lost-index c.lost-item.result c.arcs-arcs.ensures.graph c.loop-lost-test.true
    c.lost-item.is

pub add_of-requires-clause-events : goal.add_of-requires-clause-events
add_of-requires-clause-events c = rw c.as_slice-events.ensures.value c.in_ok-enabled.ensures

pub add_of-requires-clause-enabled : goal.add_of-requires-clause-enabled
add_of-requires-clause-enabled c =
    let g = c.args.graph.now in
    let s = c.args.s in
    let events = c.as_slice-events.result.now in
    let are = subst (AreEnabled g s) (sym c.as_slice-events.ensures.value) c.in_ok-enabled.ensures in
    enabled_at g s events are c.loop-lost.lost-index c.lost-item.result c.loop-lost-test.true c.lost-item.is

pub loop-lost-init : goal.loop-lost-init
loop-lost-init c =
    let g = c.args.graph.now in
    let s = c.args.s in
    let events = c.as_slice-events.result.now in
    let are = subst (AreEnabled g s) (sym c.as_slice-events.ensures.value) c.in_ok-enabled.ensures in
    first_none loss_place (LosesAt g s) IsOfLost events (at_order g s events are) c.args.found.now.items

pub loop-lost-preserved-then-not-is_driven : goal.loop-lost-preserved-then-not-is_driven
loop-lost-preserved-then-not-is_driven c =
    let g = c.args.graph.now in
    let s = c.args.s in
    let events = c.as_slice-events.result.now in
    let are = subst (AreEnabled g s) (sym c.as_slice-events.ensures.value) c.in_ok-enabled.ensures in
    let lost = c.lost-item.result in
    let old = c.loop-lost.found.items in
    first_more loss_place (LosesAt g s) IsOfLost events (at_order g s events are) c.loop-lost.lost-index lost
    c.args.found.now.items old old c.loop-lost-test.true c.lost-item.is c.loop-lost.invariant
    (at_pass g s lost old
    (λ driven. true≢false (sym (c.is_driven.ensures.1 driven) ∙ c.if-not-is_driven.true)))

pub loop-lost-preserved : goal.loop-lost-preserved
loop-lost-preserved c =
    let g = c.args.graph.now in
    let s = c.args.s in
    let events = c.as_slice-events.result.now in
    let are = subst (AreEnabled g s) (sym c.as_slice-events.ensures.value) c.in_ok-enabled.ensures in
    let lost = c.lost-item.result in
    let old = c.loop-lost.found.items in
    first_more loss_place (LosesAt g s) IsOfLost events (at_order g s events are) c.loop-lost.lost-index lost
    c.args.found.now.items old _ c.loop-lost-test.true c.lost-item.is c.loop-lost.invariant
    (at_here g s lost old _ c.in_ok-add_of.ensures)

pub returns : goal.returns
returns c =
    let g = c.args.graph.now in
    let s = c.args.s in
    let events = c.as_slice-events.result.now in
    let are = subst (AreEnabled g s) (sym c.as_slice-events.ensures.value) c.in_ok-enabled.ensures in
    first_all loss_place (LosesAt g s) IsOfLost events (at_order g s events are) c.loop-lost.lost-index
    c.args.found.now.items c.loop-lost.found.items c.loop-lost-test.false (at_each g s events are)
    c.loop-lost.invariant
