use Rattle.std.proofs.Common.{true, false}
use Rattle.si_divisor.proofs.ForcedLemmas.{next_block}
use Rattle.si_divisor.proofs.forced.forced_words.Goals as goal

pub loop-block-preserved : goal.loop-block-preserved
loop-block-preserved c =
    let coded = c.args.coded.now in
    let functions = c.args.functions.now in
    let block = c.loop-block.block in
    let states = c.states-states.result in
    let count = c.min-count.result in
    let forced = c.forced_block-forced.result in
    let more = rw c.div_ceil-block-end.ensures at c.loop-block-test.true in
    record {
      up = rw c.in_ok-extend_from_slice.ensures.items
          (next_block coded functions true block states count c.loop-block.up.items forced.up more
          c.min-count.ensures c.forced_block-forced.ensures.up_size c.loop-block.invariant.up
          c.forced_block-forced.ensures.up);
      down = rw c.in_ok-extend_from_slice-2.ensures.items
          (next_block coded functions false block states count c.loop-block.down.items forced.down more
          c.min-count.ensures c.forced_block-forced.ensures.down_size c.loop-block.invariant.down
          c.forced_block-forced.ensures.down);
    }
