use Rattle.std.proofs.Common.{take}
use Rattle.si_netlist.specs.Reads.{MarksExactly}
use Rattle.si_settled.specs.Settling.{is_among}
use Rattle.si_settled.proofs.marks.marks.Given as goal

abbrev pub invariant-loop-z : goal.invariant-loop-z
invariant-loop-z l = MarksExactly (is_among (take l.z-index l.signals)) l.code
