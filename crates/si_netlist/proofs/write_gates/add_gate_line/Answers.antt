use Rattle.si_words.proofs.WritingLemmas.{left_as, whole_line}
use Rattle.si_netlist.proofs.write_gates.add_gate_line.Goals as goal

pub returns : goal.returns
returns c = left_as _ _ _ _ (rw (c.in_ok-add_gate.ensures, c.in_ok-add.ensures.added, c.bytes.ensures)
    (whole_line c.args.text.now c.args.signal.now.name _)) c.add-2.ensures.added
