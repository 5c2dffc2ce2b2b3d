use Rattle.si_genlib.proofs.WritingLemmas.{text_by_calls}
use Rattle.si_genlib.proofs.write.write_library.Goals as goal

pub returns : goal.returns
returns c =
    text_by_calls c.args.library.now _ _ _ _
    c.in_ok-text.ensures
    (rw (c.bytes.ensures, c.name.ensures) at c.in_ok-add_line.ensures)
    (rw c.cells.ensures.cells at c.in_ok-add_cell_lines.ensures)
    c.in_ok-add.ensures.added
