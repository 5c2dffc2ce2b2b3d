use Rattle.std.proofs.Common.{ℕ, ◌<◌}
use Rattle.si_divisor.specs.Targets.{forced_in}
use Rattle.si_divisor.specs.PartitionFor.{LeavesAt}
use Rattle.si_divisor.proofs.classes.first_leaving.Given as goal

abbrev pub invariant-loop-s : goal.invariant-loop-s
invariant-loop-s l = (t : ℕ) → t < l.s → LeavesAt (forced_in l.up l.down) l.plus l.minus t → ⊥
