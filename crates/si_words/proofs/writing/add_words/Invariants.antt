use Rattle.std.proofs.Common.{◌≡◌, ◌++◌}
use Rattle.si_words.proofs.WritingLemmas.{words_from}
use Rattle.si_words.proofs.writing.add_words.Given as goal

abbrev pub invariant-loop-word : goal.invariant-loop-word
invariant-loop-word l = l.text ++ words_from l.words l.word-index ≡ l.initial.text ++ words_from l.words 0
