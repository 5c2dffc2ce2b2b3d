use Rattle.std.proofs.Common.{◌≡◌, length, arith, subst, refl}
use Rattle.si_divisor.proofs.ManyFunctionLemmas.{AreOpposedTo, none_opposed, one_opposed}
use Rattle.si_divisor.proofs.function_sets.those_with_targets.Goals as goal

pub loop-s-init : goal.loop-s-init
loop-s-init c = none_opposed c.args.ones.now c.args.zeros.now

pub loop-s-preserved : goal.loop-s-preserved
loop-s-preserved c =
    one_opposed c.args.ones.now c.args.zeros.now c.loop-s.s c.loop-s.all _ _ refl refl c.loop-s.invariant

pub returns : goal.returns
returns c =
    let all : c.loop-s.s ≡ length c.args.ones.now = omega (arith, c.loop-s-test.false, c.loop-s.auto.s-end) in
    subst (λ n. AreOpposedTo c.args.ones.now c.args.zeros.now n c.loop-s.all) all c.loop-s.invariant
