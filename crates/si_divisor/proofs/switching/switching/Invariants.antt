use Rattle.std.proofs.Common.{◌+◌}
use Rattle.si_closures.specs.Loops.WordSearch.{room, waiting}
use Rattle.si_divisor.proofs.SwitchLoops.{AreSearched}
use Rattle.si_divisor.proofs.switching.switching.Given as goal

abbrev pub invariant-loop-x : goal.invariant-loop-x
invariant-loop-x l = AreSearched l.graph l.highs l.given l.within l.work.words l.work.work l.kept

abbrev pub decreases-loop-x : goal.decreases-loop-x
decreases-loop-x l = room l.work.words + waiting l.work.work
