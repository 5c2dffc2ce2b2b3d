use Rattle.si_explain.proofs.EventLemmas.{events_all, event_pushed}
use Rattle.si_explain.proofs.events.enabled_events.Goals as goal

pub loop-arc-preserved : goal.loop-arc-preserved
loop-arc-preserved c = event_pushed c.arcs_out-out.result.now c.loop-arc.arc-index c.arc-item.result
    c.loop-arc.events.items _ c.loop-arc-test.true c.arc-item.is c.loop-arc.invariant c.in_ok-push.ensures.items

pub returns : goal.returns
returns c = events_all c.args.graph.now c.args.s c.arcs_out-out.result.now c.loop-arc.events.items
    c.loop-arc.arc-index c.arcs_out-out.ensures c.loop-arc-test.false c.loop-arc.invariant
