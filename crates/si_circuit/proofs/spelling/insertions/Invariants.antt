use Rattle.si_circuit.proofs.SpellingTraces.{IsSpelledTo}
use Rattle.si_circuit.proofs.spelling.insertions.Given as goal

abbrev pub invariant-loop-k : goal.invariant-loop-k
invariant-loop-k l = IsSpelledTo l.states l.lineage l.k l.descents.items l.inserts.items
