use Rattle.si_candidates.proofs.BlockMarks.{listed_more, all_listed}
use Rattle.si_candidates.proofs.blocks.marked_set.Goals as goal

pub loop-s-preserved : goal.loop-s-preserved
loop-s-preserved c = rw c.add.ensures
    (listed_more c.args.size c.args.states.now c.loop-s.s-index c.s-item.result c.loop-s.set c.requires
    c.loop-s-test.true c.s-item.is c.loop-s.invariant)

pub returns : goal.returns
returns c = all_listed c.args.size c.args.states.now c.loop-s.s-index c.loop-s.set c.loop-s-test.false
    c.loop-s.invariant c.requires
