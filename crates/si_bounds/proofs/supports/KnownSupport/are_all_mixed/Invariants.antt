use Rattle.std.proofs.Common.{ℕ, ◌<◌, get_or}
use Rattle.si_bounds.specs.declared.supports.Groups.{Groups}
use Rattle.si_bounds.specs.Loops.Supports.{HaveMixed}
use Rattle.si_bounds.proofs.supports.KnownSupport.are_all_mixed.Given as goal

abbrev pub invariant-loop-groups : goal.invariant-loop-groups
invariant-loop-groups l = (k : ℕ) (d : Groups) → k < l.groups-index → HaveMixed l.high l.low (get_or l.groups-items k d)
