use Rattle.si_candidates.proofs.AskLemmas.{IsRun}
use Rattle.si_candidates.proofs.intervals.bits_from.Given as goal

abbrev pub invariant-loop-k : goal.invariant-loop-k
invariant-loop-k l = IsRun l.first l.k l.bits
