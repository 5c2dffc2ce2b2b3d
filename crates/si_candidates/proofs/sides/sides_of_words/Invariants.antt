use Rattle.si_candidates.proofs.SideWords.{AreAllSidesTo}
use Rattle.si_candidates.proofs.sides.sides_of_words.Given as goal

abbrev pub invariant-loop-link : goal.invariant-loop-link
invariant-loop-link l = AreAllSidesTo l.graph.graph l.tree l.words l.link-index l.sides.items
