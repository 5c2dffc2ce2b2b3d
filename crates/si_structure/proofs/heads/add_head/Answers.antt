use Rattle.si_words.proofs.WritingLemmas.{left_as}
use Rattle.si_structure.specs.StructureText.{reset_ports}
use Rattle.si_structure.proofs.HeadWriting.{head_by_calls}
use Rattle.si_structure.proofs.heads.add_head.Goals as goal

pub returns : goal.returns
returns c = left_as _ _ _ _
    (head_by_calls c.args.name.now (reset_ports c.args.reset.now) c.args.signals.now c.args.text.now _ _ _ _ _ _
    c.in_ok-add.ensures.added c.in_ok-add_name.ensures c.in_ok-add-2.ensures.added c.in_ok-add_ports.ensures
    c.in_ok-add-3.ensures.added c.in_ok-add_wires.ensures) c.add_wires-2.ensures
