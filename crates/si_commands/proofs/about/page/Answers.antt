use Rattle.std.proofs.Common.{◌∙◌, ◌++◌, ap, List, ℕ}
use Rattle.si_commands.specs.About.{line_of, note_of, notes}
use Rattle.si_commands.specs.Command.{rows}
use Rattle.si_commands.specs.Loops.Reads.{row_now}
use Rattle.si_commands.proofs.HelpLines.{all_lines, page_ends}
use Rattle.si_commands.proofs.about.page.Goals as goal

pub returns : goal.returns
returns c =
    let word = c.args.word.now in
    let lines = all_lines (line_of word) row_now c.rows-row-items.result.now rows c.loop-row.row-index
    c.rows-row-items.ensures.rows c.loop-row-test.false in
    let told = all_lines (note_of word) (λ note. (note.0.now, note.1.now)) c.notes-own-items.result.now notes
    c.loop-own.own-index c.notes-own-items.ensures c.loop-own-test.false in
    page_ends word c.in_ok-text.text c.add.new.self c.loop-row.text c.add-2.new.self c.loop-own.text
    (c.in_ok-text.ensures ∙ c.as_bytes.ensures.value) c.in_ok-add.ensures.added
    (c.loop-row.invariant ∙ ap (λ (l : List ℕ). c.add.new.self ++ l) lines) c.in_ok-add-2.ensures.added
    (c.loop-own.invariant ∙ ap (λ (l : List ℕ). c.add-2.new.self ++ l) told)
