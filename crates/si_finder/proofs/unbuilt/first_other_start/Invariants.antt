use Rattle.std.proofs.Common.{ℕ, ◌<◌}
use Rattle.si_audit.specs.Faults.{StartsOtherwise}
use Rattle.si_finder.proofs.unbuilt.first_other_start.Given as goal

abbrev pub invariant-loop-z : goal.invariant-loop-z
invariant-loop-z l = (z : ℕ) → z < l.z → StartsOtherwise l.lineage.given l.lineage.current l.netlist z → ⊥
