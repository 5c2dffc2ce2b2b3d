use Rattle.std.proofs.Common.{◌∙◌, ap, ◌++◌, List, ℕ}
use Rattle.si_commands.proofs.HelpLines.{option_added}
use Rattle.si_commands.proofs.about.add_options.Goals as goal

pub loop-option-preserved : goal.loop-option-preserved
loop-option-preserved c =
    option_added c.args.options.now c.loop-option.option-index _ c.args.text.now c.loop-option.text c.add.new.self
    c.add-in-loop-option.new.self c.add-in-loop-option-2.new.self c.loop-option-test.true c.loop-option.invariant
    c.in_ok-add.ensures.added
    (c.in_ok-add-2.ensures.added ∙ ap (λ (l : List ℕ). c.add.new.self ++ l) c.as_bytes.ensures.value)
    c.in_ok-add-3.ensures.added
