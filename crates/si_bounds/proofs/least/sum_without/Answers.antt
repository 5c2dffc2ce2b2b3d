use Rattle.std.proofs.Common.{◌∙◌, sym, arith}
use Rattle.si_bounds.proofs.LeastLemmas.{sums_added, sums_end, sums_passed}
use Rattle.si_bounds.proofs.least.sum_without.Goals as goal

pub loop-i-preserved-then-get : goal.loop-i-preserved-then-get
loop-i-preserved-then-get c = record {
  told = sums_passed c.args.waiting c.loop-i.i c.loop-i.sum _ c.args.least.now c.loop-i-test.true
      (sym c.get.ensures ∙ c.if-get.true) c.loop-i.invariant.told;
  few = omega (arith, c.loop-i.invariant.few);
}

pub loop-i-preserved : goal.loop-i-preserved
loop-i-preserved c = record {
  told = sums_added c.args.waiting c.loop-i.i c.loop-i.sum _ c.args.least.now c.loop-i-test.true
      (sym c.get.ensures ∙ c.if-get.false) c.loop-i.invariant.told;
  few = omega (arith, c.loop-i.invariant.few, c.requires.small c.loop-i.i 0 c.loop-i-test.true);
}

pub returns : goal.returns
returns c = sums_end c.args.waiting c.loop-i.i c.loop-i.sum _ c.args.least.now
    (omega (arith, c.loop-i-test.false)) c.loop-i.invariant.told
