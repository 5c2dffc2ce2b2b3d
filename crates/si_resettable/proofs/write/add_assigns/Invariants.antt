use Rattle.std.proofs.Common.{◌≡◌, ◌++◌}
use Rattle.si_resettable.proofs.WritingLemmas.{lines_from}
use Rattle.si_resettable.proofs.write.add_assigns.Given as goal

abbrev pub invariant-loop-z : goal.invariant-loop-z
invariant-loop-z l = l.text ++ lines_from l.netlist l.forced l.reset l.z-items l.z-index
    ≡ l.initial.text ++ lines_from l.netlist l.forced l.reset l.z-items 0
