use Rattle.si_lint.proofs.UnusedLemmas.{switched_none, switched_more, switched_all}
use Rattle.si_lint.proofs.unused.switched.Goals as goal

pub loop-arc-init : goal.loop-arc-init
loop-arc-init c = switched_none c.args.arcs.now

pub loop-arc-preserved : goal.loop-arc-preserved
loop-arc-preserved c = switched_more c.args.arcs.now c.loop-arc.arc-index c.arc-item.result c.loop-arc.switched _
    c.loop-arc-test.true c.arc-item.is c.loop-arc.invariant c.set-switched.ensures

pub set-switched-requires : goal.set-switched-requires
set-switched-requires c = rw (← c.arc-item.is) at
    (c.requires c.loop-arc.arc-index c.arc-item.result c.loop-arc-test.true)

pub returns : goal.returns
returns c =
    switched_all c.args.arcs.now c.loop-arc.arc-index c.loop-arc.switched c.loop-arc-test.false c.loop-arc.invariant
