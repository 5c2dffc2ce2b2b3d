use Rattle.si_wave.proofs.WriteLemmas.{text_by_calls}
use Rattle.si_wave.proofs.write.write_wave.Goals as goal

pub returns : goal.returns
returns c =
    text_by_calls c.args.netlist.now c.args.events.now _ _ _ _ _ _ _ _ _
    c.in_ok-text.ensures
    (rw (c.escape.ensures, c.bytes-model.ensures, c.model.ensures) at c.in_ok-add.ensures.added)
    (rw (c.bytes-model.ensures, c.model.ensures) at c.in_ok-add-2.ensures.added)
    c.in_ok-add-3.ensures.added
    (rw c.signals-signals.ensures.signals at c.in_ok-add_wires.ensures)
    c.in_ok-add-4.ensures.added
    (rw (c.signals-signals.ensures.signals, c.start.ensures) at c.in_ok-add_starts.ensures)
    c.in_ok-add-5.ensures.added
    c.in_ok-add_moments.ensures
