use Rattle.std.proofs.Common.{sym, subst}
use Rattle.si_base.specs.Proper.{fork_place}
use Rattle.si_breaches.specs.Loops.Breaches.{ForksAt, IsOfFirstEvent}
use Rattle.si_breaches.specs.Loops.Steps.{AreEnabled}
use Rattle.si_breaches.proofs.ForkLemmas.{at_order, at_here, at_each}
use Rattle.si_told.proofs.Alls.{first_none, first_more, first_all}
use Rattle.si_breaches.proofs.forks.add_at.Goals as goal

pub add_of-requires : goal.add_of-requires
add_of-requires c = rw c.as_slice-events.ensures.value c.in_ok-enabled.ensures

pub loop-a-init : goal.loop-a-init
loop-a-init c =
    let g = c.args.graph.now in
    let s = c.args.s in
    let events = c.as_slice-events.result.now in
    let are = subst (AreEnabled g s) (sym c.as_slice-events.ensures.value) c.in_ok-enabled.ensures in
    first_none fork_place (ForksAt g s) IsOfFirstEvent events (at_order g s events are) c.args.found.now.items

pub loop-a-preserved : goal.loop-a-preserved
loop-a-preserved c =
    let g = c.args.graph.now in
    let s = c.args.s in
    let events = c.as_slice-events.result.now in
    let are = subst (AreEnabled g s) (sym c.as_slice-events.ensures.value) c.in_ok-enabled.ensures in
    let a = c.a-item.result in
    let old = c.loop-a.found.items in
    first_more fork_place (ForksAt g s) IsOfFirstEvent events (at_order g s events are) c.loop-a.a-index a
    c.args.found.now.items old _ c.loop-a-test.true c.a-item.is c.loop-a.invariant
    (at_here g s a old _ c.in_ok-add_of.ensures)

pub returns : goal.returns
returns c =
    let g = c.args.graph.now in
    let s = c.args.s in
    let events = c.as_slice-events.result.now in
    let are = subst (AreEnabled g s) (sym c.as_slice-events.ensures.value) c.in_ok-enabled.ensures in
    first_all fork_place (ForksAt g s) IsOfFirstEvent events (at_order g s events are) c.loop-a.a-index
    c.args.found.now.items c.loop-a.found.items c.loop-a-test.false (at_each g s events are) c.loop-a.invariant
