use Rattle.si_sg.proofs.OtherLemmas.{set_none, set_more, set_all}
use Rattle.si_sg.proofs.build.marked_set.Goals as goal

pub loop-s-init : goal.loop-s-init
loop-s-init c = rw c.in_ok-set.ensures (set_none c.args.size c.args.states.now)

pub loop-s-preserved : goal.loop-s-preserved
loop-s-preserved c = rw c.add.ensures (set_more c.args.size c.loop-s.s-index c.s-item.result c.args.states.now
    c.loop-s.set c.requires c.loop-s-test.true c.s-item.is c.loop-s.invariant)

pub returns : goal.returns
returns c = set_all c.args.size c.loop-s.s-index c.args.states.now c.loop-s.set c.loop-s-test.false c.loop-s.invariant
