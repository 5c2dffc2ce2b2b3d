use Rattle.si_walks.proofs.WalkSteps.{IsOnWay, left}
use Rattle.si_walks.proofs.walk.walk_by.Given as goal

abbrev pub invariant-loop-arc : goal.invariant-loop-arc
invariant-loop-arc l = IsOnWay l.coded.graph l.arcs l.fn.target l.fn.from l.walk.items l.at

abbrev pub decreases-loop-arc : goal.decreases-loop-arc
decreases-loop-arc l = left l.distances l.at
