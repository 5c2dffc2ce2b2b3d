use Rattle.std.proofs.Common.{arith}
use Rattle.si_closures.proofs.RowLemmas.{none_put, one_block_put, all_put}
use Rattle.si_closures.proofs.set_rows.put_row.Goals as goal

pub loop-b-init : goal.loop-b-init
loop-b-init c = none_put c.args.k c.args.words.now c.args.rows.now

pub loop-b-preserved : goal.loop-b-preserved
loop-b-preserved c =
    one_block_put c.args.k c.loop-b.b c.flags_at.result c.requires.few c.args.words.now c.args.rows.now c.loop-b.rows
    (let kept = c.loop-b.invariant.size in omega (arith, kept, c.loop-b-test.true, c.requires.few)) c.flags_at.ensures
    c.loop-b.invariant

pub returns-clause-there : goal.returns-clause-there
returns-clause-there c =
    all_put c.args.k c.loop-b.b c.args.words.now c.args.rows.now c.loop-b.rows c.requires.size
    (omega (arith, c.loop-b-test.false)) c.loop-b.invariant
