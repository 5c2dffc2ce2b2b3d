use Rattle.std.proofs.Common.{◌-◌, length, get_or}
use Rattle.si_same.proofs.ForestLemmas.{IsClimbing}
use Rattle.si_same.proofs.ties.Ties.class.Given as goal

abbrev pub invariant-loop-parent : goal.invariant-loop-parent
invariant-loop-parent l = IsClimbing l.self-inside.parents.items l.x l.at

abbrev pub decreases-loop-parent : goal.decreases-loop-parent
decreases-loop-parent l = length l.self-inside.parents.items - get_or l.self-inside.ranks.items l.at 0
