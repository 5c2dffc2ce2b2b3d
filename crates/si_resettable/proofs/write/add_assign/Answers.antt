use Rattle.si_words.proofs.WritingLemmas.{left_as}
use Rattle.si_resettable.proofs.WritingLemmas.{line_by_calls}
use Rattle.si_resettable.proofs.write.add_assign.Goals as goal

pub returns : goal.returns
returns c = left_as _ _ _ _
    (line_by_calls c.args.netlist.now c.args.forced.now c.args.reset.now c.args.z c.args.text.now _ _ _ _ _
    (rw c.signals.ensures.signals at c.signal_name.ensures) c.in_ok-add.ensures.added c.in_ok-add_name.ensures
    c.in_ok-add-2.ensures.added c.in_ok-add_expression.ensures)
    c.add-3.ensures.added
