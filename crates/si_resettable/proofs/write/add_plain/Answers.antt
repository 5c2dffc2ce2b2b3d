use Rattle.si_words.proofs.WritingLemmas.{left_as}
use Rattle.si_resettable.proofs.WritingLemmas.{plain_by_call}
use Rattle.si_resettable.proofs.write.add_plain.Goals as goal

pub returns : goal.returns
returns c = left_as _ _ _ _
    (plain_by_call c.args.netlist.now c.args.z _ _ c.args.text.now _ c.signals-signals.ensures.signals
    c.signal_name-name.ensures c.gate_of.ensures.gate) c.add_gate.ensures
