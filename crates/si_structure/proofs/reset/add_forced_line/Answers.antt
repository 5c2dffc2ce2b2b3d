use Rattle.std.proofs.Common.{◌∙◌}
use Rattle.si_words.proofs.WritingLemmas.{left_as}
use Rattle.si_structure.proofs.PlacementWriting.{forced_by_calls}
use Rattle.si_structure.proofs.reset.add_forced_line.Goals as goal

pub returns : goal.returns
returns c = left_as _ _ _ _
    (forced_by_calls c.args.netlist.now c.args.reset.now c.args.z c.get.result _ _ _ _ c.args.text.now _ _ _ _
    (rw c.signals.ensures.signals at c.signal_name-name.ensures) (rw c.start.ensures at c.get.ensures)
    c.in_ok-free.ensures (c.bytes.ensures ∙ c.in_ok-free_net.ensures) c.in_ok-add_name.ensures
    c.in_ok-add.ensures.added c.in_ok-add_name-2.ensures c.in_ok-add-2.ensures.added
    (rw c.bytes-2.ensures at c.in_ok-add_forced.ensures))
    c.add-3.ensures.added
