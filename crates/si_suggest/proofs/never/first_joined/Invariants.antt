use Rattle.si_suggest.proofs.NeverLemmas.{NoneJoined}
use Rattle.si_suggest.proofs.never.first_joined.Given as goal

abbrev pub invariant-loop-pair : goal.invariant-loop-pair
invariant-loop-pair l = NoneJoined l.coded l.pairs l.pair-index
