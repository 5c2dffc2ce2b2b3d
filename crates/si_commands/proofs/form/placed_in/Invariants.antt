use Rattle.si_words.specs.Loops.Reads.{words_now}
use Rattle.si_commands.specs.Loops.Filled.{AreFilled}
use Rattle.si_commands.specs.Form.{words_of}
use Rattle.si_commands.specs.Loops.Reads.{slots_now}
use Rattle.si_commands.proofs.form.placed_in.Given as goal

-- the places so far are filled
abbrev pub invariant-loop-place : goal.invariant-loop-place
invariant-loop-place l =
    AreFilled (slots_now l.places) (words_of l.words) (words_now l.files.items) (words_now l.choices.items) l.place
