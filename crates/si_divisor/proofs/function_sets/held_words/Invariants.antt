use Rattle.si_divisor.proofs.ManyFunctionLemmas.{AreHeldTo}
use Rattle.si_divisor.proofs.function_sets.held_words.Given as goal

abbrev pub invariant-loop-s : goal.invariant-loop-s
invariant-loop-s l = AreHeldTo l.up l.down l.s l.held.items
