use Rattle.si_resettable.proofs.WritingLemmas.{text_by_calls}
use Rattle.si_resettable.proofs.write.text_of.Goals as goal

pub returns-clause-text : goal.returns-clause-text
returns-clause-text c =
    text_by_calls c.args.netlist.now c.args.forced.now c.args.reset.now _ _ _ _ _ _ _ _ _
    c.in_ok-text.ensures
    (rw (c.bytes.ensures, c.model.ensures) at c.in_ok-add_name.ensures)
    c.in_ok-add.ensures.added
    (rw c.signals-signals.ensures.signals at c.in_ok-add_ports.ensures)
    c.in_ok-add-2.ensures.added
    (rw c.signals-signals.ensures.signals at c.in_ok-add_wires.ensures)
    (rw c.signals-signals.ensures.signals at c.in_ok-add_wires-2.ensures)
    c.in_ok-add_assigns.ensures
    c.in_ok-add-3.ensures.added
