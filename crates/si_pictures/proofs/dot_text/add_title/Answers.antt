use Rattle.std.proofs.Common.{◌∙◌}
use Rattle.si_words.proofs.WritingLemmas.{left_as}
use Rattle.si_pictures.specs.Picture.{title}
use Rattle.si_pictures.proofs.PictureLemmas.{setting_by_calls}
use Rattle.si_pictures.proofs.dot_text.add_title.Goals as goal

pub returns : goal.returns
returns c =
    left_as _ _ _ _ (setting_by_calls c.args.text.now (title c.args.model.now c.args.signals.now) _ _
    c.in_ok-add.ensures.added
    (rw (c.bytes.ensures ∙ c.in_ok-label.ensures) at c.in_ok-add_attribute.ensures)) c.add-2.ensures.added
