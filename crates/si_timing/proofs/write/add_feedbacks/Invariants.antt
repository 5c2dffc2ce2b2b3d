use Rattle.std.proofs.Common.{◌≡◌, ◌++◌}
use Rattle.si_timing.specs.TimingText.{feedback_arcs}
use Rattle.si_timing.proofs.Writing.{lines_left}
use Rattle.si_timing.proofs.write.add_feedbacks.Given as goal

abbrev pub invariant-loop-z : goal.invariant-loop-z
invariant-loop-z l = l.text ++ lines_left (feedback_arcs l.library l.netlist) l.z-items l.z-index
    ≡ l.initial.text ++ lines_left (feedback_arcs l.library l.netlist) l.z-items 0
