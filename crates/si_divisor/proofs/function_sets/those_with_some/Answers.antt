use Rattle.std.proofs.Common.{refl, arith}
use Rattle.si_divisor.proofs.ManyFunctionLemmas.{none_found, one_found, all_found}
use Rattle.si_divisor.proofs.function_sets.those_with_some.Goals as goal

pub loop-word-init : goal.loop-word-init
loop-word-init c = none_found c.args.words.now

pub loop-word-preserved : goal.loop-word-preserved
loop-word-preserved c =
    one_found c.args.words.now c.loop-word.word-index c.loop-word.found _ refl c.loop-word.invariant

pub returns : goal.returns
returns c = all_found c.args.words.now c.loop-word.word-index c.loop-word.found
    (omega (arith, c.loop-word-test.false)) c.loop-word.invariant
