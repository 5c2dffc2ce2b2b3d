use Rattle.si_words.proofs.WritingLemmas.{left_as}
use Rattle.si_pictures.proofs.PictureLemmas.{later_by_calls}
use Rattle.si_pictures.proofs.dot_writing.add_attribute_if.Goals as goal

pub returns : goal.returns
returns c = rw c.if-not-on.false (left_as _ _ _ _ (later_by_calls c.args.text.now
    (record { name = c.args.name.now; value = c.args.value.now }) _ c.in_ok-add.ensures.added) c.add_attribute.ensures)
