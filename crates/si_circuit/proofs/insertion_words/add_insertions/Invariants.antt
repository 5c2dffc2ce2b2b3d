use Rattle.std.proofs.Common.{◌≡◌, ◌++◌}
use Rattle.si_circuit.proofs.InsertionWordsLemmas.{inserts_left}
use Rattle.si_circuit.proofs.insertion_words.add_insertions.Given as goal

abbrev pub invariant-loop-insert : goal.invariant-loop-insert
invariant-loop-insert l = l.text ++ inserts_left l.inserts l.insert-index ≡ l.initial.text ++ inserts_left l.inserts 0
