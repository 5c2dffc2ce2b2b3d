use Rattle.si_words.proofs.WritingLemmas.{left_as}
use Rattle.si_resettable.proofs.WritingLemmas.{ports_by_calls}
use Rattle.si_resettable.proofs.write.add_ports.Goals as goal

pub returns : goal.returns
returns c = left_as _ _ _ _
    (ports_by_calls c.args.signals.now c.args.reset.now c.args.text.now _ _ _ _ c.in_ok-add.ensures.added
    c.in_ok-add_name.ensures c.in_ok-add_ports_of.ensures.lines c.in_ok-add_ports_of-2.ensures.lines)
    c.add-2.ensures.added
