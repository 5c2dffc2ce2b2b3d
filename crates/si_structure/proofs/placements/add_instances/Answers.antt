use Rattle.std.proofs.Common.{ap, ◌∙◌}
use Rattle.si_words.proofs.WritingLemmas.{left_as}
use Rattle.si_cell.specs.Library.{Library, cell_at}
use Rattle.si_genlib.specs.Ports.{Ports}
use Rattle.si_structure.specs.StructureText.{ported_cells}
use Rattle.si_structure.specs.Loops.Deciding.{ported_at}
use Rattle.si_structure.proofs.PlacementWriting.{instances_by_calls}
use Rattle.si_structure.proofs.placements.add_instances.Goals as goal

pub returns : goal.returns
returns c = left_as _ _ _ _
    (instances_by_calls (ported_cells c.args.library.now) c.args.signals.now c.args.forced.now c.args.name.now
    (ported_at c.args.library.now c.args.k) c.args.literals.now _ _ _ _ _ _ _ c.args.text.now _
    (c.as_slice-pins.ensures.value ∙ ap (λ (p : Ports). p.pins) (c.ports.view_is ∙ c.ports_at-ports.ensures))
    (c.cell-cell.ensures.cell ∙ ap (λ (l : Library). cell_at l c.args.k) c.library.ensures)
    c.ports_at-ports.ensures (c.bytes.ensures ∙ c.in_ok-instance.ensures) c.in_ok-nets.ensures.pins
    c.in_ok-nets.ensures.own.0 c.in_ok-nets.ensures.own.1 c.in_ok-add_inverters.ensures) c.add_placement.ensures
