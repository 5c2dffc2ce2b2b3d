use Rattle.si_words.proofs.WritingLemmas.{left_as}
use Rattle.si_pictures.proofs.PictureLemmas.{attribute_by_calls}
use Rattle.si_pictures.proofs.dot_writing.add_attribute.Goals as goal

pub returns : goal.returns
returns c =
    left_as _ _ _ _ (attribute_by_calls c.args.text.now c.args.name.now c.args.value.now _ _ _ c.in_ok-add.ensures.added
    c.in_ok-add-2.ensures.added c.in_ok-add_escaped.ensures) c.add-3.ensures.added
