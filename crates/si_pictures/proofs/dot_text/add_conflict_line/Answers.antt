use Rattle.si_words.proofs.WritingLemmas.{left_as}
use Rattle.si_pictures.proofs.PictureLemmas.{line_by_calls}
use Rattle.si_pictures.proofs.dot_text.add_conflict_line.Goals as goal

pub returns : goal.returns
returns c =
    left_as _ _ _ _ (line_by_calls c.args.pair.p c.args.pair.q c.args.text.now _ _ _ _ c.in_ok-add.ensures.added
    c.in_ok-add_number.ensures c.in_ok-add-2.ensures.added c.in_ok-add_number-2.ensures) c.add-3.ensures.added
