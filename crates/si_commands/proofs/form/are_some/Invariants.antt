use Rattle.std.proofs.Common.{◌≡◌, ◌≤◌, drop, length}
use Rattle.si_words.specs.Loops.Reads.{words_now}
use Rattle.si_commands.specs.Form.{are_some}
use Rattle.si_commands.specs.Form.{words_of}
use Rattle.si_commands.proofs.form.are_some.Given as goal

-- the words that are left have to be some of the options that are left
abbrev pub invariant-loop-option : goal.invariant-loop-option
invariant-loop-option l = record {
  within : l.taken ≤ length l.words;
  left : are_some (words_now l.options) (words_of l.words)
      ≡ are_some (drop l.option-index (words_now l.options)) (drop l.taken (words_of l.words));
}
