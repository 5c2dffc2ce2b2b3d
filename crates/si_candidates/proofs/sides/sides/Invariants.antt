use Rattle.si_candidates.proofs.SideLemmas.{AreSidesTo}
use Rattle.si_candidates.proofs.sides.sides.Given as goal

abbrev pub invariant-loop-link : goal.invariant-loop-link
invariant-loop-link l = AreSidesTo l.graph.graph l.tree l.set l.link-index l.sides
