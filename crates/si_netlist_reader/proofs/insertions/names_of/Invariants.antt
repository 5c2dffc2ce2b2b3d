use Rattle.std.proofs.Common.{◌≡◌, take}
use Rattle.si_words.specs.Loops.Reads.{words_now}
use Rattle.si_netlist_reader.proofs.insertions.names_of.Given as goal

abbrev pub invariant-loop-word : goal.invariant-loop-word
invariant-loop-word l = l.names ≡ take l.word-index (words_now l.words)
