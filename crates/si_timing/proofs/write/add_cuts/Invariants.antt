use Rattle.std.proofs.Common.{◌≡◌, ◌++◌}
use Rattle.si_timing.specs.TimingText.{cut_arcs}
use Rattle.si_timing.proofs.Writing.{lines_left}
use Rattle.si_timing.proofs.write.add_cuts.Given as goal

abbrev pub invariant-loop-arc : goal.invariant-loop-arc
invariant-loop-arc l = l.text ++ lines_left (cut_arcs l.library l.netlist) l.cut l.arc-index
    ≡ l.initial.text ++ lines_left (cut_arcs l.library l.netlist) l.cut 0
