use Rattle.std.proofs.Common.{arith}
use Rattle.si_candidates.proofs.AskLemmas.{longer_run}
use Rattle.si_candidates.proofs.intervals.bits_from.Goals as goal

pub loop-k-preserved : goal.loop-k-preserved
loop-k-preserved c = longer_run c.args.first c.loop-k.k c.loop-k.bits (omega (arith, c.loop-k.auto.k))
    (omega (arith, c.loop-k-test.true, c.requires)) c.loop-k.invariant
