use Rattle.std.proofs.Common.{◌≡◌, ◌++◌, take}
use Rattle.si_words.specs.Loops.Reads.{words_now}
use Rattle.si_refusals.proofs.rejection.add_all.Given as goal

-- the words so far were added
abbrev pub invariant-loop-word : goal.invariant-loop-word
invariant-loop-word l = l.words ≡ l.initial.words ++ take l.word-index (words_now l.more)
