use Rattle.std.proofs.Common.{arith, get_or, refl}
use Rattle.si_divisor.proofs.FunctionLemmas.{agrees_more}
use Rattle.si_divisor.proofs.function.code_where.Goals as goal

pub loop-i-preserved : goal.loop-i-preserved
loop-i-preserved c =
    agrees_more c.args.signals.now c.args.values c.loop-i.i (get_or c.args.signals.now c.loop-i.i 0) c.has_bit.result
    c.loop-i.code c.set-code.result (omega (arith, c.loop-i-test.true)) refl c.has_bit.ensures c.set-code.ensures
    c.loop-i.invariant
