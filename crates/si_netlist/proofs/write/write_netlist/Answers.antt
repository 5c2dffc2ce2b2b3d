use Rattle.si_netlist.proofs.WritingLemmas.{text_by_calls}
use Rattle.si_netlist.proofs.write.write_netlist.Goals as goal

pub returns : goal.returns
returns c =
    text_by_calls c.args.netlist.now _ _ _ _ _ _ _ _ _ _ _ _
    c.in_ok-text.ensures
    (rw (c.bytes.ensures, c.model.ensures) at c.in_ok-add_word.ensures)
    c.in_ok-add.ensures.added
    (rw c.signals-signals.ensures.signals at c.in_ok-add_names_line.ensures)
    (rw c.signals-signals.ensures.signals at c.in_ok-add_names_line-2.ensures)
    (rw c.signals-signals.ensures.signals at c.in_ok-add_names_line-3.ensures)
    (rw c.signals-signals.ensures.signals at c.in_ok-add_names_line-4.ensures)
    (rw (c.signals-signals.ensures.signals, c.start.ensures) at c.in_ok-add_values_line.ensures)
    (rw c.inserts.ensures at c.in_ok-add_insert_lines.ensures)
    c.in_ok-add-2.ensures.added
    (rw (c.gates.ensures, c.signals-signals.ensures.signals) at c.in_ok-add_gate_lines.ensures)
    c.in_ok-add-3.ensures.added
