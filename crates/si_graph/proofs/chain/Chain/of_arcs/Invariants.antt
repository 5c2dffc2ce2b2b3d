use Rattle.std.proofs.Common.{◌≡◌, ◌≤◌, length}
use Rattle.si_graph.specs.Loops.Chains.{AreLinked}
use Rattle.si_graph.specs.Loops.Ends.{state_at}
use Rattle.si_graph.proofs.chain.Chain.of_arcs.Given as goal

abbrev pub invariant-loop-k : goal.invariant-loop-k
invariant-loop-k l = record {
  up_to : l.k ≤ length l.arcs;
  linked : AreLinked (state_at l.end) l.states l.arcs l.k l.chain.heads.items l.chain.nexts.items;
  last : l.chain.end ≡ length l.arcs;
}

abbrev pub decreases-loop-k : goal.decreases-loop-k
decreases-loop-k l = l.k
