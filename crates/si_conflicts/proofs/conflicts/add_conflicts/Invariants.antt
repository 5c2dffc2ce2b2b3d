use Rattle.std.proofs.Common.{◌<◌, length}
use Rattle.si_conflicts.specs.Conflicts.{pairs_of}
use Rattle.si_conflicts.specs.Loops.Search.{AreBelow}
use Rattle.si_conflicts.proofs.SearchLemmas.{low, left, IsAt}
use Rattle.si_conflicts.proofs.conflicts.add_conflicts.Given as goal

abbrev pub invariant-loop-at : goal.invariant-loop-at
invariant-loop-at l = record {
  below : AreBelow l.graph l.p (low l.graph.graph.states l.at) (pairs_of l.pairs.items);
  at : IsAt l.graph l.p l.at;
  few : length l.pairs.items < l.limit;
}

abbrev pub decreases-loop-at : goal.decreases-loop-at
decreases-loop-at l = left l.graph.graph.states l.at
