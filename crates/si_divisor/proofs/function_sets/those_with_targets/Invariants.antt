use Rattle.si_divisor.proofs.ManyFunctionLemmas.{AreOpposedTo}
use Rattle.si_divisor.proofs.function_sets.those_with_targets.Given as goal

abbrev pub invariant-loop-s : goal.invariant-loop-s
invariant-loop-s l = AreOpposedTo l.ones l.zeros l.s l.all
