use Rattle.std.proofs.Common.{◌∙◌, ◌<◌, length, true, false, arith}
use Rattle.std.proofs.lemmas.List.{length-set}
use Rattle.si_divisor.proofs.ForcedLemmas.{one_told}
use Rattle.si_divisor.proofs.forced.put_words.Goals as goal

pub loop-k-preserved : goal.loop-k-preserved
loop-k-preserved c =
    let functions = c.args.functions.now in
    let columns = c.args.columns.now in
    let k = c.loop-k.k in
    let f = c.index-functions-k.result in
    let up = c.loop-k.up in
    let down = c.loop-k.down in
    let few : k < 128 = omega (arith, c.loop-k-test.true, c.requires.few) in
    let up_room : k < length up = omega (arith, few, c.loop-k.invariant.up_size) in
    let down_room : k < length down = omega (arith, few, c.loop-k.invariant.down_size) in
    record {
      up_size = length-set up k _ ∙ c.loop-k.invariant.up_size;
      down_size = length-set down k _ ∙ c.loop-k.invariant.down_size;
      up = one_told functions true columns k up f _ c.loop-k-test.true up_room c.index-functions-k.is
          c.forced_states.ensures.up c.loop-k.invariant.up;
      down = one_told functions false columns k down f _ c.loop-k-test.true down_room c.index-functions-k.is
          c.forced_states.ensures.down c.loop-k.invariant.down;
    }
