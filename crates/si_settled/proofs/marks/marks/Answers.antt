use Rattle.si_settled.proofs.CodeLemmas.{marks_more}
use Rattle.si_settled.proofs.marks.marks.Goals as goal

pub loop-z-preserved : goal.loop-z-preserved
loop-z-preserved c = marks_more c.args.signals.now c.loop-z.z-index c.z-item.result c.loop-z.code c.set-code.result
    c.loop-z-test.true c.z-item.is c.loop-z.invariant c.set-code.ensures
