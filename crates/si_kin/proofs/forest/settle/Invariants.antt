use Rattle.si_kin.specs.Loops.Forest.{IsSettledTo}
use Rattle.si_kin.proofs.forest.settle.Given as goal

abbrev pub invariant-loop-s : goal.invariant-loop-s
invariant-loop-s l = IsSettledTo l.fn.parents l.s l.parents
