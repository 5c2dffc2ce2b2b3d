use Rattle.std.proofs.Common.{ap, length, arith}
use Rattle.std.proofs.lemmas.List.{length_push}
use Rattle.si_resolve.proofs.BlockListLemmas.{usable_at, usable_more}
use Rattle.si_resolve.proofs.block_list.usable_ones.Goals as goal

pub loop-k-preserved : goal.loop-k-preserved
loop-k-preserved c =
    let g = c.args.graph.now.graph in
    let blocks = c.args.blocks.now in
    let k = c.loop-k.k in
    let flag = c.is_usable.result in
    let usable = c.loop-k.usable.items in
    let pushed = c.in_ok-push.ensures.items in
    let is = usable_at g blocks c.in_ok-may_switch.may_switch.items k c.index-blocks-k.result c.index.result.now flag
    c.loop-k-test.true c.index-blocks-k.is c.index.ensures c.in_ok-may_switch.ensures c.is_usable.ensures in
    record {
      count = omega (arith, ap length pushed, length_push usable flag, c.loop-k.invariant.count);
      each = rw pushed (usable_more g blocks usable flag k c.loop-k.invariant.count is c.loop-k.invariant.each);
    }
