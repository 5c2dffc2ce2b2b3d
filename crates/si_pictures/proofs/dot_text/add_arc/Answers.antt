use Rattle.si_words.proofs.WritingLemmas.{left_as}
use Rattle.si_pictures.proofs.PictureLemmas.{link_by_calls}
use Rattle.si_pictures.proofs.dot_text.add_arc.Goals as goal

pub returns : goal.returns
returns c =
    left_as _ _ _ _ (link_by_calls c.args.signals.now c.args.arc c.drives-driven.result c.args.marked c.args.text.now
    _ _ _ _ _ _ _ _ c.drives-driven.ensures c.in_ok-add.ensures.added
    c.in_ok-add_number.ensures c.in_ok-add-2.ensures.added c.in_ok-add_number-2.ensures
    c.in_ok-add-3.ensures.added c.in_ok-add_event_label.ensures c.in_ok-add_attribute_if.ensures
    c.in_ok-add_attribute_if-2.ensures) c.add-4.ensures.added
