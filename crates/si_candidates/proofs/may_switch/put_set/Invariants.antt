use Rattle.std.proofs.Common.{◌≤◌, ◌-◌, length}
use Rattle.si_candidates.proofs.MaySwitchWords.{ArePut}
use Rattle.si_candidates.proofs.may_switch.put_set.Given as goal

abbrev pub invariant-loop-s : goal.invariant-loop-s
invariant-loop-s l = (l.at ≤ length l.set) × ArePut l.fn.words l.k l.set l.at l.words

abbrev pub decreases-loop-s : goal.decreases-loop-s
decreases-loop-s l = length l.set - l.at
