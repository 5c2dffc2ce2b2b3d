use Rattle.std.proofs.Common.{take}
use Rattle.si_sg.specs.Loops.Others.{IsSetOf}
use Rattle.si_sg.proofs.build.marked_set.Given as goal

abbrev pub invariant-loop-s : goal.invariant-loop-s
invariant-loop-s l = IsSetOf l.size (take l.s-index l.states) l.set
