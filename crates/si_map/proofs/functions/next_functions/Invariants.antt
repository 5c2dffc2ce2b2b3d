use Rattle.si_map.proofs.DivisorFunctions.{AreNext}
use Rattle.si_map.proofs.functions.next_functions.Given as goal

abbrev pub invariant-loop-other : goal.invariant-loop-other
invariant-loop-other l = AreNext l.function l.next.items
