use Rattle.std.proofs.Common.{◌≡◌, List, ℕ, ◌++◌, ap, sym, ◌∙◌}
use Rattle.si_words.proofs.WritingLemmas.{left_as}
use Rattle.si_base.specs.Netlist.{Cell as CellGate}
use Rattle.si_netlist.specs.Loops.Parts.{gate_seen}
use Rattle.si_genlib.specs.Ports.{Ports}
use Rattle.si_structure.specs.StructureText.{cell_named, ported_cells}
use Rattle.si_structure.specs.Loops.Deciding.{ported_at}
use Rattle.si_structure.proofs.PlacementWriting.{gate_wires_some}
use Rattle.si_structure.proofs.inverters.add_wires_of_gate.Goals as goal

pub returns-in-Some : goal.returns-in-Some
returns-in-Some c =
    let cells = ported_cells c.args.library.now in
    let cell = ported_at c.args.library.now c.in-Some.k in
    let gate : gate_seen c.args.gate.now ≡ CellGate c.in-Cell.cell c.in-Cell.literals.items c.in-Cell.sum =
    ap gate_seen c.in-Cell.is in
    let pins : c.as_slice-pins.result.now ≡ cell.ports.pins =
    c.as_slice-pins.ensures.value ∙ ap (λ (p : Ports). p.pins) (c.behind-library.view_is ∙ c.ports_at.ensures) in
    let found = ap (cell_named cells) (sym c.bytes.ensures) ∙ c.in-Some.ensures.1 in
    left_as _ _ _ _ (rw (pins, c.as_slice.ensures.value, gate)
    (ap (λ (t : List ℕ). c.args.text.now ++ t)
    (gate_wires_some cells c.args.name.now c.in-Cell.cell c.in-Cell.literals.items c.in-Cell.sum cell found)))
    c.add_wires_of_pins.ensures
