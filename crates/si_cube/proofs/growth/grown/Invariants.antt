use Rattle.si_cube.proofs.OrderLemmas.{IsClear}
use Rattle.si_cube.proofs.growth.grown.Given as goal

abbrev pub invariant-loop-s : goal.invariant-loop-s
invariant-loop-s l = IsClear l.signals l.forbidden l.fn.code l.s l.cube
