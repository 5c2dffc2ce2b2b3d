use Rattle.si_words.proofs.WritingLemmas.{left_as, whole_line}
use Rattle.si_settled.proofs.write.add_signals.Goals as goal

pub returns : goal.returns
returns c = left_as _ _ _ _ (rw (c.in_ok-add_names.ensures, c.in_ok-add.ensures.added)
    (whole_line c.args.text.now c.args.word.now _)) c.add-2.ensures.added
