use Rattle.std.proofs.Common.{ℕ, ◌<◌, get_or}
use Rattle.si_bounds.specs.declared.supports.Group.{Group}
use Rattle.si_bounds.specs.Loops.Supports.{IsSeparated}
use Rattle.si_bounds.proofs.supports.Groups.have_mixed.Given as goal

abbrev pub invariant-loop-group : goal.invariant-loop-group
invariant-loop-group l = (k : ℕ) (d : Group) → k < l.group-index → IsSeparated l.high l.low (get_or l.group-items k d)
