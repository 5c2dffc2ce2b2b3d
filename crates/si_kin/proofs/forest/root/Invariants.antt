use Rattle.si_kin.specs.Loops.Forest.{IsOnWay}
use Rattle.si_kin.proofs.forest.root.Given as goal

abbrev pub invariant-loop-at : goal.invariant-loop-at
invariant-loop-at l = IsOnWay l.fn.parents l.fn.s l.parents l.at

abbrev pub decreases-loop-at : goal.decreases-loop-at
decreases-loop-at l = l.at
