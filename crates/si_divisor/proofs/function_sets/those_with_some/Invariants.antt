use Rattle.si_divisor.proofs.ManyFunctionLemmas.{AreSomeTo}
use Rattle.si_divisor.proofs.function_sets.those_with_some.Given as goal

abbrev pub invariant-loop-word : goal.invariant-loop-word
invariant-loop-word l = AreSomeTo l.words l.word-index l.found
