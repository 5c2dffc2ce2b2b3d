use Rattle.std.proofs.Common.{◌-◌, length}
use Rattle.si_graph.proofs.ClosureLemmas.{Stands, place_in_walk}
use Rattle.si_divisor.specs.Loops.ManySwitching.{BelongsTo, Grows}
use Rattle.si_divisor.proofs.SwitchTurns.{PassedTo, ComesBack}
use Rattle.si_divisor.proofs.switching.follow_into.Given as goal

abbrev pub invariant-loop-at : goal.invariant-loop-at
invariant-loop-at l = record {
  grows : Grows (BelongsTo l.graph l.highs) l.fn.work l.work;
  stands : Stands l.graph l.fn.x l.at;
  passed : PassedTo l.graph (ComesBack l.graph l.highs l.sets l.fn.work) l.fn.x (place_in_walk l.graph l.at) l.work;
}

abbrev pub decreases-loop-at : goal.decreases-loop-at
decreases-loop-at l = length l.graph.edges - place_in_walk l.graph l.at
