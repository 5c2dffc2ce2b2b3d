use Rattle.std.proofs.Common.{arith, refl}
use Rattle.si_divisor.proofs.ManyFunctionLemmas.{one_held}
use Rattle.si_divisor.proofs.function_sets.held_words.Goals as goal

pub loop-s-preserved : goal.loop-s-preserved
loop-s-preserved c =
    let up = c.args.up.now in
    let down = c.args.down.now in
    let s = c.loop-s.s in
    rw c.in_ok-push.ensures.items (one_held up down s c.loop-s.held.items _ refl (c.type_inv.up s).fits
    (c.type_inv.down s).fits c.loop-s.invariant)

pub returns : goal.returns
returns c = record {
  size = omega (arith, c.loop-s.invariant.size, c.loop-s-test.false, c.loop-s.auto.s-end);
  each = λ k s few inside. c.loop-s.invariant.each k s few (omega (arith, inside, c.loop-s-test.false));
}
