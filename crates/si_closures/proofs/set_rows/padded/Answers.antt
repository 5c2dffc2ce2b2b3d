use Rattle.std.proofs.Common.{arith}
use Rattle.si_closures.proofs.RowLemmas.{zero_more}
use Rattle.si_closures.proofs.set_rows.padded.Goals as goal

pub loop-preserved : goal.loop-preserved
loop-preserved c =
    let more = zero_more c.loop.rows.items c.args.words.now c.loop.invariant.same
    (omega (arith, c.loop.invariant.size, c.loop.invariant.room)) in record {
      size = omega (arith, c.in_ok-push.ensures.len, c.loop.invariant.size);
      room = omega (arith, c.loop.invariant.room);
      same = λ s. rw c.in_ok-push.ensures.items (more s);
    }
