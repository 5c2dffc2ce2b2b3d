use Rattle.std.proofs.Common.{ap, ◌∙◌}
use Rattle.si_words.proofs.WritingLemmas.{left_as}
use Rattle.si_cell.specs.Library.{Cell}
use Rattle.si_genlib.specs.Ports.{Ports}
use Rattle.si_structure.proofs.PlacementWriting.{cell_by_calls}
use Rattle.si_structure.proofs.cells.add_cell.Goals as goal

pub returns : goal.returns
returns c = left_as _ _ _ _
    (cell_by_calls (record { cell = c.args.cell.now; ports = c.args.ports.now }) _ _ _ _ c.args.text.now _ _ _ _ _
    (c.bytes.ensures ∙ ap (λ (x : Cell). x.name) c.cell.view_is)
    (c.bytes-2.ensures ∙ ap (λ (p : Ports). p.output) c.ports.view_is)
    (c.as_slice-signals.ensures.value ∙ c.in_ok-made.ensures)
    (c.in_ok-widened.ensures ∙ ap (λ (x : Cell). x.sum) c.cell.view_is)
    c.in_ok-add_head.ensures c.in_ok-add.ensures.added c.in_ok-add_name.ensures c.in_ok-add-2.ensures.added
    c.in_ok-add_gate.ensures) c.add-3.ensures.added
