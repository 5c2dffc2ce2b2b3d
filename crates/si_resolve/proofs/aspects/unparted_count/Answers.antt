use Rattle.std.proofs.Common.{◌<◌, length, arith}
use Rattle.si_resolve.proofs.AspectLemmas.{unparted_more}
use Rattle.si_resolve.proofs.aspects.unparted_count.Goals as goal

pub loop-k-preserved : goal.loop-k-preserved
loop-k-preserved c =
    let plus = c.args.plus.now in
    let k = c.loop-k.k in
    let inside : k < length plus = omega (arith, c.loop-k-test.true) in
    let more = unparted_more plus c.args.minus.now k c.requires.count inside in
    record {
      left = omega (arith, more, c.loop-k.invariant.left, c.stays-left.ensures.is);
      few = omega (arith, c.loop-k.invariant.few, c.stays-left.ensures.few);
    }
