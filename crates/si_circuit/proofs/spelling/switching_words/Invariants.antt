use Rattle.std.proofs.Common.{◌≡◌}
use Rattle.si_circuit.proofs.SpellingWords.{words_below}
use Rattle.si_circuit.proofs.spelling.switching_words.Given as goal

abbrev pub invariant-loop-s : goal.invariant-loop-s
invariant-loop-s l = l.words ≡ words_below l.states l.k l.descents l.classes l.up l.s
