use Rattle.std.proofs.Common.{◌<◌}
use Rattle.si_audit.specs.Faults.{IsWrong, Spot as SpotSeen}
use Rattle.si_finder.proofs.unbuilt.first_wrong.Given as goal

abbrev pub invariant-loop-z : goal.invariant-loop-z
invariant-loop-z l = (x : SpotSeen) → x.sig < l.z → IsWrong l.coded l.netlist x → ⊥
