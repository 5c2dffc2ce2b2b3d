use Rattle.std.proofs.Common.{◌≡◌, ◌++◌}
use Rattle.si_structure.proofs.PlacementWriting.{forced_left}
use Rattle.si_structure.proofs.reset.add_forced_lines.Given as goal

abbrev pub invariant-loop-z : goal.invariant-loop-z
invariant-loop-z l = l.text ++ forced_left l.netlist l.forcing.name l.z-items l.z-index
    ≡ l.initial.text ++ forced_left l.netlist l.forcing.name l.z-items 0
