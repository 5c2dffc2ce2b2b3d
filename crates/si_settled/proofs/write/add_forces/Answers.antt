use Rattle.si_settled.proofs.TextLemmas.{force_more}
use Rattle.si_settled.proofs.write.add_forces.Goals as goal

pub loop-z-preserved : goal.loop-z-preserved
loop-z-preserved c = force_more c.args.signals.now c.args.start c.args.forced.now c.loop-z.z-index c.z-item.result
    c.get.result c.signal_name-name.result.now c.digit.result.now _ c.loop-z.text c.add_force.new.text c.loop-z-test.true
    c.z-item.is c.loop-z.invariant c.signal_name-name.ensures c.get.ensures c.digit.ensures c.in_ok-add_force.ensures
