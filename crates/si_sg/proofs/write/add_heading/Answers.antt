use Rattle.si_words.proofs.WritingLemmas.{left_as}
use Rattle.si_sg.proofs.WritingLemmas.{heading_by_calls}
use Rattle.si_sg.proofs.write.add_heading.Goals as goal

pub returns : goal.returns
returns c = left_as _ _ _ _ (heading_by_calls c.args.model.now c.args.signals.now c.args.text.now _ _ _ _
    c.in_ok-add_line.ensures c.in_ok-add_names_line.ensures c.in_ok-add_names_line-2.ensures
    c.in_ok-add_names_line-3.ensures) c.add.ensures.added
