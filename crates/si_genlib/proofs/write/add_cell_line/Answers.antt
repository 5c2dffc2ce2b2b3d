use Rattle.std.proofs.Common.{◌≡◌, ap, ◌∙◌}
use Rattle.si_cell.specs.Library.{Cell}
use Rattle.si_genlib.proofs.WritingLemmas.{cell_by_calls}
use Rattle.si_genlib.proofs.write.add_cell_line.Goals as goal
use Rattle.si_words.proofs.WritingLemmas.{left_as}

pub returns : goal.returns
returns c =
    let name : c.bytes.result.now ≡ c.args.cell.now.name =
    c.bytes.ensures ∙ ap (λ (x : Cell). x.name) c.cell.view_is in
    let pins = c.deref.ensures.value ∙ ap (λ (x : Cell). x.pins) c.cell.view_is in
    let sum = c.in_ok-sum.ensures ∙ ap (λ (x : Cell). x.sum) c.cell.view_is in
    let signals = c.deref-2.ensures.value ∙ c.in_ok-signals.ensures in
    left_as _ _ _ _ (cell_by_calls c.args.cell.now c.args.text.now _ _ _ _ _
    c.in_ok-add.ensures.added
    (rw name at c.in_ok-add_word.ensures)
    (rw pins at c.in_ok-add_pins.ensures)
    c.in_ok-add_word-2.ensures
    (rw (signals, sum) at c.in_ok-add_sum.ensures)) c.add-2.ensures.added
