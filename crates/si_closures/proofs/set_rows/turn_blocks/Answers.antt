use Rattle.std.proofs.Common.{arith}
use Rattle.si_closures.proofs.RowLemmas.{none_turned, one_block_turned, all_turned}
use Rattle.si_closures.proofs.set_rows.turn_blocks.Goals as goal

pub loop-b-init : goal.loop-b-init
loop-b-init c = none_turned c.args.rows.now

pub loop-b-preserved : goal.loop-b-preserved
loop-b-preserved c =
    one_block_turned c.args.rows.now c.loop-b.rows c.turn_block.new.rows c.loop-b.b c.loop-b.invariant
    c.turn_block.ensures.size c.turn_block.ensures.turned c.turn_block.ensures.others

pub returns : goal.returns
returns c = all_turned c.args.rows.now c.loop-b.rows c.loop-b.b c.requires (omega (arith, c.loop-b-test.false))
    c.loop-b.invariant
