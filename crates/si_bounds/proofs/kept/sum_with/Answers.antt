use Rattle.std.proofs.Common.{arith, subst, get_or}
use Rattle.si_base.specs.Bits.{bit}
use Rattle.si_bounds.specs.Loops.Kept.{IsTold}
use Rattle.si_bounds.proofs.KeptLemmas.{ends, one_told, starts}
use Rattle.si_bounds.proofs.kept.sum_with.Goals as goal

pub loop-i-init : goal.loop-i-init
loop-i-init c = record {
  told = starts c.args.coded.now c.args.classes.now c.args.most c.args.waiting c.args.least.now;
  few = omega arith;
}

pub loop-i-preserved : goal.loop-i-preserved
loop-i-preserved c =
    let coded = c.args.coded.now in
    let classes = c.args.classes.now in
    let least = c.args.least.now in
    let i = c.loop-i.i in
    let own = c.told_weight-sum in
    let told : IsTold coded classes c.args.most i (bit c.args.waiting i) (get_or least i 0) own.result =
    subst (λ waits. IsTold coded classes c.args.most i waits (get_or least i 0) own.result) c.get.ensures
    own.ensures.told in
    record {
      told = one_told coded classes c.args.most c.args.waiting least i c.loop-i.sum own.result c.loop-i-test.true
          c.loop-i.invariant.told told;
      few = omega (arith, c.loop-i.invariant.few, own.ensures.small);
    }

pub returns : goal.returns
returns c =
    ends c.args.coded.now c.args.classes.now c.args.most c.args.waiting c.args.least.now c.loop-i.i c.loop-i.sum
    (omega (arith, c.loop-i-test.false)) c.loop-i.invariant.told
