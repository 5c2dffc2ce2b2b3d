use Rattle.si_loops.proofs.TextLemmas.{cut_more}
use Rattle.si_loops.proofs.write.add_cuts.Goals as goal

pub loop-arc-preserved : goal.loop-arc-preserved
loop-arc-preserved c = cut_more c.args.signals.now c.args.cut.now c.loop-arc.arc-index c.arc-item.result
    c.signal_name-gate.result.now c.signal_name-pin.result.now _ c.loop-arc.text c.add_line.new.text c.loop-arc-test.true
    c.arc-item.is c.loop-arc.invariant c.signal_name-gate.ensures c.signal_name-pin.ensures c.in_ok-add_line.ensures
