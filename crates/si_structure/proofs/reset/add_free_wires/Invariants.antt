use Rattle.std.proofs.Common.{◌≡◌, ◌++◌}
use Rattle.si_structure.proofs.PlacementWriting.{free_left}
use Rattle.si_structure.proofs.reset.add_free_wires.Given as goal

abbrev pub invariant-loop-z : goal.invariant-loop-z
invariant-loop-z l = l.text ++ free_left l.signals l.forced l.z-index ≡ l.initial.text ++ free_left l.signals l.forced 0
