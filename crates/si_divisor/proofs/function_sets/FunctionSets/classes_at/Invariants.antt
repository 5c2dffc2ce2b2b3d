use Rattle.si_divisor.specs.Loops.ManyFunctions.{AreClassesAt}
use Rattle.si_divisor.proofs.function_sets.FunctionSets.classes_at.Given as goal

abbrev pub invariant-loop-s : goal.invariant-loop-s
invariant-loop-s l = AreClassesAt l.s l.k l.self l.classes.items
