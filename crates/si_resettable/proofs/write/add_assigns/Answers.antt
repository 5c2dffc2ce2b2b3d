use Rattle.si_resettable.proofs.WritingLemmas.{line_more}
use Rattle.si_resettable.proofs.write.add_assigns.Goals as goal

pub loop-z-preserved : goal.loop-z-preserved
loop-z-preserved c = line_more c.args.netlist.now c.args.forced.now c.args.reset.now c.as_slice-z-items.result.now
    c.loop-z.z-index c.z-item.result _ c.loop-z.text c.add_assign.new.text c.loop-z-test.true c.z-item.is
    c.loop-z.invariant c.in_ok-add_assign.ensures
