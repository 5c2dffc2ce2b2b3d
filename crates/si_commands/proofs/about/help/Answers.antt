use Rattle.si_commands.proofs.HelpLines.{help_ends}
use Rattle.si_commands.proofs.about.help.Goals as goal

pub returns : goal.returns
returns c = help_ends c.rows-row-items.result.now c.loop-row.row-index c.in_ok-text.text c.loop-row.text c.add.new.self
    c.rows-row-items.ensures.rows c.loop-row-test.false c.in_ok-text.ensures c.loop-row.invariant c.in_ok-add.ensures.added
