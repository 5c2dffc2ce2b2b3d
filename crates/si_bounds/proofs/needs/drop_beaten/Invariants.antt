use Rattle.std.proofs.Common.{◌-◌, length}
use Rattle.si_bounds.proofs.NeedLists.{AreLeft}
use Rattle.si_bounds.proofs.needs.drop_beaten.Given as goal

abbrev pub invariant-loop-k : goal.invariant-loop-k
invariant-loop-k l = AreLeft l.fn.needs.items l.need l.needs.items

abbrev pub decreases-loop-k : goal.decreases-loop-k
decreases-loop-k l = length l.needs.items - l.k
