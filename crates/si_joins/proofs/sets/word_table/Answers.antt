use Rattle.std.proofs.Common.{arith}
use Rattle.si_joins.proofs.TableLemmas.{table_all, table_more}
use Rattle.si_joins.proofs.sets.word_table.Goals as goal

pub loop-k-preserved : goal.loop-k-preserved
loop-k-preserved c =
    table_more c.loop-k.known c.add.new.self c.args.words.now c.loop-k.k c.get.result.now
    (omega (arith, c.loop-k-test.true, c.len-k-end.ensures)) c.get.ensures c.loop-k.invariant c.in-Ok.ensures.present
    c.in-Ok.ensures.new

pub returns : goal.returns
returns c =
    table_all c.loop-k.known c.args.words.now c.loop-k.k
    (omega (arith, c.loop-k-test.false, c.loop-k.auto.k-end, c.len-k-end.ensures)) c.loop-k.invariant
