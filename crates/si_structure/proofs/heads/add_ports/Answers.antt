use Rattle.si_words.proofs.WritingLemmas.{left_as}
use Rattle.si_structure.specs.StructureText.{reset_ports}
use Rattle.si_structure.proofs.HeadWriting.{ports_by_calls}
use Rattle.si_structure.proofs.heads.add_ports.Goals as goal

pub returns : goal.returns
returns c = left_as _ _ _ _ (rw c.behind_ports.ensures
    (ports_by_calls (reset_ports c.args.reset.now) c.args.signals.now c.args.text.now _ _ _ c.in_ok-first.first
    c.in_ok-inputs.inputs c.in_ok-any.any c.in_ok-first.ensures.line c.in_ok-first.ensures.any
    c.in_ok-inputs.ensures.lines c.in_ok-inputs.ensures.any c.in_ok-any.ensures.lines c.in_ok-any.ensures.any))
    c.add.ensures.added
