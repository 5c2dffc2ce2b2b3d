use Rattle.si_base.specs.Sets.{IsIn}
use Rattle.si_sg.specs.Loops.Others.{AreOthers}
use Rattle.si_sg.proofs.build.others.Given as goal

abbrev pub invariant-loop-s : goal.invariant-loop-s
invariant-loop-s l = AreOthers (IsIn l.set) l.s l.others.items
