use Rattle.si_graph.specs.Closure.{IsNext}
use Rattle.si_graph.specs.Loops.Reach.{MarksAll}
use Rattle.si_candidates.proofs.PartLemmas.{IsNextBefore}
use Rattle.si_candidates.proofs.parts.follow_each.Given as goal

abbrev pub invariant-loop-k : goal.invariant-loop-k
invariant-loop-k l = MarksAll (IsNextBefore (IsNext l.graph l.along l.within) l.set l.k)
    l.fn.search.marks l.fn.search.work l.search.marks l.search.work
