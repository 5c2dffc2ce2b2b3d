use Rattle.si_commands.specs.Loops.Reads.{row_now}
use Rattle.si_commands.proofs.HelpLines.{row_added}
use Rattle.si_commands.proofs.about.add_row.Goals as goal

pub returns : goal.returns
returns c = row_added (row_now c.args.row.now) c.args.text.now c.add.new.self c.add_form.new.text c.add-2.new.self
    c.add-3.new.self c.add-4.new.self c.bytes-before.result.now c.bytes.result.now c.blanks.result.now c.as_bytes.result.now
    c.in_ok-add.ensures.added c.in_ok-add_form.ensures c.in_ok-add-2.ensures.added c.in_ok-add-3.ensures.added
    c.in_ok-add-4.ensures.added c.bytes-before.ensures c.bytes.ensures c.blanks.ensures c.as_bytes.ensures.value
