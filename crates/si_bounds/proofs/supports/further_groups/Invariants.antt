use Rattle.si_bounds.specs.Loops.Supports.{ShowFurther}
use Rattle.si_bounds.proofs.supports.further_groups.Given as goal

abbrev pub invariant-loop-i : goal.invariant-loop-i
invariant-loop-i l = ShowFurther l.coded l.fn.z l.fn.triggers l.i l.further.items
