use Rattle.std.proofs.Common.{ap, ◌∙◌}
use Rattle.si_words.proofs.WritingLemmas.{left_as}
use Rattle.si_cell.specs.Library.{Cell}
use Rattle.si_genlib.specs.Ports.{Ports}
use Rattle.si_structure.proofs.PlacementWriting.{placement_by_calls}
use Rattle.si_structure.proofs.placements.add_placement.Goals as goal

pub returns : goal.returns
returns c = left_as _ _ _ _
    (placement_by_calls c.args.instance.now (record { cell = c.args.cell.now; ports = c.args.ports.now })
    c.args.nets.now.pins.items c.args.nets.now.read c.args.nets.now.driven _ _ _ c.args.text.now _ _ _ _ _ _ _
    (c.bytes.ensures ∙ ap (λ (x : Cell). x.name) c.cell.view_is)
    (c.as_slice.ensures.value ∙ ap (λ (p : Ports). p.pins) c.ports.view_is) c.as_slice-2.ensures.value
    c.in_ok-add.ensures.added c.in_ok-add_name.ensures c.in_ok-add-2.ensures.added c.in_ok-add_name-2.ensures
    c.in_ok-add-3.ensures.added c.in_ok-add_pins.ensures c.in_ok-add_own.ensures) c.add-4.ensures.added
