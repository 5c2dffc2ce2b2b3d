use Rattle.std.proofs.Common.{◌≡◌, ◌++◌, take}
use Rattle.std.specs.List.{flat_map}
use Rattle.si_words.specs.Loops.Reads.{words_now}
use Rattle.si_commands.specs.About.{shown_option}
use Rattle.si_commands.proofs.about.add_options.Given as goal

-- the options so far are there
abbrev pub invariant-loop-option : goal.invariant-loop-option
invariant-loop-option l =
    l.text ≡ l.initial.text ++ flat_map (λ option. shown_option option) (take l.option-index (words_now l.options))
