use Rattle.si_pictures.proofs.PictureLemmas.{title_by_calls}
use Rattle.si_pictures.proofs.dot_text.title_of.Goals as goal

pub returns : goal.returns
returns c =
    title_by_calls c.args.model.now c.args.signals.now _ _ _ _ (rw c.in_ok-label.ensures at c.in_ok-add.ensures.added)
    c.in_ok-add_names.ensures c.in_ok-add-2.ensures.added c.in_ok-add_names-2.ensures
