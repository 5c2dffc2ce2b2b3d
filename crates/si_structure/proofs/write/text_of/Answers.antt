use Rattle.si_structure.proofs.PlacementWriting.{text_by_calls}
use Rattle.si_structure.proofs.write.text_of.Goals as goal

pub returns-clause-text : goal.returns-clause-text
returns-clause-text c =
    text_by_calls c.args.library.now c.args.netlist.now c.args.reset.now _ _ _ _ _ _ _ _
    c.in_ok-text.ensures c.in_ok-add_cells.ensures.modules
    (rw (c.bytes.ensures, c.model.ensures, c.signals-signals.ensures.signals) at c.in_ok-add_head.ensures)
    (rw (c.forced_by-forced.ensures, c.signals-signals.ensures.signals) at c.in_ok-add_free_wires.ensures)
    (rw (c.gates-gates.ensures, c.signals-signals.ensures.signals) at c.in_ok-add_inverted_wires.ensures)
    c.in_ok-add_forced_lines.ensures
    (rw (c.forced_by-forced.ensures, c.gates-gates.ensures, c.signals-signals.ensures.signals)
    at c.in_ok-add_placements.ensures)
    c.in_ok-add.ensures.added
