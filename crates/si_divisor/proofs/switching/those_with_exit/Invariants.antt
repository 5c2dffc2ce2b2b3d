use Rattle.std.proofs.Common.{◌-◌, length}
use Rattle.si_graph.proofs.ClosureLemmas.{Stands, place_in_walk}
use Rattle.si_divisor.proofs.SwitchTurns.{AreLetBelow}
use Rattle.si_divisor.proofs.switching.those_with_exit.Given as goal

abbrev pub invariant-loop-at : goal.invariant-loop-at
invariant-loop-at l = record {
  stands : Stands l.graph l.exit.from l.at;
  found : AreLetBelow l.graph l.highs l.words l.exit (place_in_walk l.graph l.at) l.found;
}

abbrev pub decreases-loop-at : goal.decreases-loop-at
decreases-loop-at l = length l.graph.edges - place_in_walk l.graph l.at
