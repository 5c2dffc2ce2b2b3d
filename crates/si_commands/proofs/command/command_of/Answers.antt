use Rattle.std.proofs.Common.{arith}
use Rattle.si_words.specs.Loops.Reads.{words_now}
use Rattle.si_commands.proofs.CommandTasks.{asks_for_row, asks_one_less, asks_nothing}
use Rattle.si_commands.proofs.command.command_of.Goals as goal

pub loop-row-init : goal.loop-row-init
loop-row-init c = λ k below. absurd (omega (arith, below))

pub loop-row-preserved : goal.loop-row-preserved
loop-row-preserved c =
    let none = rw c.in-Ok-None.field-0-is at c.in-Ok-None.ensures in
    asks_one_less c.args.words.now c.rows-row-items.result.now c.loop-row.row-index c.rows-row-items.ensures.tasks
    c.rows-row-items.ensures.rows c.loop-row-test.true c.loop-row.invariant none

pub returns-in-Ok-Some-clause-ok : goal.returns-in-Ok-Some-clause-ok
returns-in-Ok-Some-clause-ok c =
    let has = rw c.in-Ok-Some.field-0-is at c.in-Ok-Some.ensures in
    asks_for_row c.rows-row-items.result.now c.rows-row-items.ensures.tasks c.rows-row-items.ensures.rows
    c.loop-row.row-index c.loop-row-test.true c.args.words.now (words_now c.in-Ok-Some.given.files.items)
    (words_now c.in-Ok-Some.given.choices.items) has

pub returns-clause-err : goal.returns-clause-err
returns-clause-err c =
    asks_nothing c.args.words.now c.rows-row-items.result.now c.loop-row.row-index c.rows-row-items.ensures.tasks
    c.loop-row-test.false c.loop-row.invariant
