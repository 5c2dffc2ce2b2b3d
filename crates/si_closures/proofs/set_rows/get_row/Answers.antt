use Rattle.std.proofs.Common.{length}
use Rattle.si_closures.proofs.RowLemmas.{one_word_got}
use Rattle.si_closures.proofs.set_rows.get_row.Goals as goal

pub loop-w-preserved : goal.loop-w-preserved
loop-w-preserved c =
    one_word_got c.args.rows.now c.args.k (length c.args.words.now) c.loop-w.w c.half.result c.loop-w.words
    c.loop-w-test.true c.half.ensures c.loop-w.invariant
