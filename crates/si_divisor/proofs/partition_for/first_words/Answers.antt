use Rattle.std.proofs.Common.{arith}
use Rattle.si_divisor.proofs.FirstWords.{one_word, all_words}
use Rattle.si_divisor.proofs.partition_for.first_words.Goals as goal

pub loop-s-preserved : goal.loop-s-preserved
loop-s-preserved c = rw c.in_ok-push.ensures.items (one_word c.loop-s.words.items c.args.set.now c.loop-s.s _ _
    c.from.ensures c.has.ensures (omega (arith, c.loop-s-test.true, c.size-s-end.ensures)) c.loop-s.invariant)

pub returns : goal.returns
returns c = all_words c.loop-s.words.items c.args.set.now c.loop-s.s
    (omega (arith, c.loop-s-test.false, c.size-s-end.ensures)) c.loop-s.invariant
