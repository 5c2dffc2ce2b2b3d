use Rattle.si_walks.specs.Loops.Sources.{IsNearestOrNone}
use Rattle.si_walks.proofs.sources.nearest.Given as goal

abbrev pub invariant-loop-s : goal.invariant-loop-s
invariant-loop-s l = IsNearestOrNone l.first l.second l.s l.best
