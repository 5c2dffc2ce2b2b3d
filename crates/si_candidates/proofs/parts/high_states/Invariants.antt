use Rattle.std.proofs.Common.{◌≡◌, ◌+◌, length}
use Rattle.si_graph.specs.Loops.Reach.{unmarked}
use Rattle.si_candidates.proofs.PartLemmas.{Spreads}
use Rattle.si_candidates.proofs.parts.high_states.Given as goal

abbrev pub invariant-loop-s : goal.invariant-loop-s
invariant-loop-s l = record {
  size : length l.search.marks ≡ l.graph.states;
  spreads : Spreads l.graph l.plus l.minus l.others l.search.marks l.search.work;
}

abbrev pub decreases-loop-s : goal.decreases-loop-s
decreases-loop-s l = unmarked l.search.marks + (unmarked l.search.marks + length l.search.work)
