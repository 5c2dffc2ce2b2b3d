use Rattle.std.proofs.Common.{arith}
use Rattle.si_base.proofs.SetsAsWords.{no_flag_in_rest, first_in_rest}
use Rattle.si_base.proofs.sets.first_set.Goals as goal

pub returns-then-rest-ne0 : goal.returns-then-rest-ne0
returns-then-rest-ne0 c =
    first_in_rest c.args.words.now c.args.from c.loop-at.at (λ k. (c.type_inv.words k).fits)
    (omega (arith, c.if-rest-ne0.true)) c.loop-at.invariant.0 c.loop-at.invariant.2

pub loop-at-preserved : goal.loop-at-preserved
loop-at-preserved c = (
  omega (arith, c.loop-at.invariant.0),
  omega (arith, c.loop-at-test.true, c.requires.few),
  no_flag_in_rest c.args.words.now c.args.from c.loop-at.at c.if-rest-ne0.false c.loop-at.invariant.2,
)
