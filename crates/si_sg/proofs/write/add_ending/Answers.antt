use Rattle.si_words.proofs.WritingLemmas.{left_as}
use Rattle.si_sg.proofs.WritingLemmas.{ending_by_calls}
use Rattle.si_sg.proofs.write.add_ending.Goals as goal

pub returns : goal.returns
returns c = left_as _ _ _ _ (ending_by_calls c.args.start.now c.args.text.now _ _ c.in_ok-add.ensures.added
    c.in_ok-add-2.ensures.added) c.add-3.ensures.added
