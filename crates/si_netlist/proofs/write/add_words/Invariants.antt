use Rattle.std.proofs.Common.{◌≡◌, ◌++◌}
use Rattle.si_netlist.proofs.WritingLemmas.{words_from}
use Rattle.si_netlist.proofs.write.add_words.Given as goal

abbrev pub invariant-loop-k : goal.invariant-loop-k
invariant-loop-k l = l.text ++ words_from l.words l.k ≡ l.initial.text ++ words_from l.words 0
