use Rattle.si_settled.proofs.TextLemmas.{name_more}
use Rattle.si_settled.proofs.write.add_names.Goals as goal

pub loop-z-preserved : goal.loop-z-preserved
loop-z-preserved c = name_more c.args.signals.now c.args.these.now c.loop-z.z-index c.z-item.result
    c.signal_name.result.now _ c.loop-z.text c.add_word.new.text c.loop-z-test.true c.z-item.is c.loop-z.invariant
    c.signal_name.ensures c.in_ok-add_word.ensures
