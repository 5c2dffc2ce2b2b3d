use Rattle.si_bounds.proofs.WaitingLemmas.{none_seen, goes_past, waits_there, never_waits, none_waits, one_waits}
use Rattle.si_bounds.proofs.waiting.waiting_signals.Goals as goal

pub loop-a-init : goal.loop-a-init
loop-a-init c = record {
  seen = none_seen c.args.classes.now c.arcs-a-items.result.now 0;
  waits = none_waits c.args.graph.now c.args.classes.now;
}

pub loop-a-preserved-then-not-arc_may_wait : goal.loop-a-preserved-then-not-arc_may_wait
loop-a-preserved-then-not-arc_may_wait c = record {
  seen = goes_past c.args.classes.now c.arcs-a-items.result.now c.loop-a.a-index c.a-item.result c.loop-a-test.true
      c.a-item.is c.loop-a.waiting c.loop-a.invariant.seen (c.arc_may_wait.ensures.never c.if-not-arc_may_wait.true);
  waits = c.loop-a.invariant.waits;
}

pub loop-a-preserved : goal.loop-a-preserved
loop-a-preserved c = record {
  seen = waits_there c.args.classes.now c.arcs-a-items.result.now c.loop-a.a-index c.a-item.result c.loop-a-test.true
      c.a-item.is c.loop-a.waiting c.loop-a.invariant.seen c.set-waiting.result c.set-waiting.ensures;
  waits = one_waits c.args.graph.now c.args.classes.now c.arcs-a-items.result.now c.arcs-a-items.ensures.arcs
      c.loop-a.a-index c.a-item.result c.loop-a-test.true c.a-item.is c.loop-a.waiting c.set-waiting.result
      c.set-waiting.ensures (c.arc_may_wait.ensures.waits c.if-not-arc_may_wait.false) c.loop-a.invariant.waits;
}

pub returns : goal.returns
returns c = record {
  never = never_waits c.args.graph.now c.args.classes.now c.arcs-a-items.result.now c.loop-a.waiting c.loop-a.a-index
      c.arcs-a-items.ensures.arcs c.loop-a-test.false c.loop-a.invariant.seen;
  waits = c.loop-a.invariant.waits;
}
