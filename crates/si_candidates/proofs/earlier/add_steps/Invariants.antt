use Rattle.std.proofs.Common.{◌-◌, length}
use Rattle.si_graph.proofs.ClosureLemmas.{Stands, place_in_walk}
use Rattle.si_candidates.specs.Loops.Earlier.{Adds}
use Rattle.si_candidates.proofs.EarlierLemmas.{IsEarlierOf}
use Rattle.si_candidates.proofs.earlier.add_steps.Given as goal

abbrev pub invariant-loop-at : goal.invariant-loop-at
invariant-loop-at l = record {
  stands : Stands l.graph l.exit.from l.at;
  adds : Adds (IsEarlierOf l.graph l.exit (place_in_walk l.graph l.at)) l.fn.steps.items l.steps.items;
}

abbrev pub decreases-loop-at : goal.decreases-loop-at
decreases-loop-at l = length l.graph.edges - place_in_walk l.graph l.at
