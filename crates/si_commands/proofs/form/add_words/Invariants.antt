use Rattle.std.proofs.Common.{◌≡◌, ◌++◌, take}
use Rattle.si_words.specs.Loops.Reads.{words_now}
use Rattle.si_commands.specs.Form.{words_of}
use Rattle.si_commands.proofs.form.add_words.Given as goal

-- the words so far were added
abbrev pub invariant-loop-word : goal.invariant-loop-word
invariant-loop-word l = words_now l.names.items ≡ words_now l.initial.names.items ++ take l.word-index (words_of l.words)
