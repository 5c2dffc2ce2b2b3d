use Rattle.std.proofs.Common.{◌-◌}
use Rattle.si_match.proofs.refute.+can_be.Given as goal

abbrev pub decreases-can_be : goal.decreases-can_be
decreases-can_be l = l.to - l.from
