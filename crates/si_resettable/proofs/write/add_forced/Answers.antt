use Rattle.si_words.proofs.WritingLemmas.{left_as}
use Rattle.si_resettable.proofs.WritingLemmas.{forced_by_calls}
use Rattle.si_resettable.proofs.write.add_forced.Goals as goal

pub returns : goal.returns
returns c = left_as _ _ _ _
    (forced_by_calls c.args.reset.now c.args.value c.args.text.now c.args.plain.now _ _ _ _ _ _ c.sign.ensures
    c.joint.ensures c.in_ok-add.ensures.added c.in_ok-add_name.ensures c.in_ok-add-2.ensures.added
    c.in_ok-add-3.ensures.added)
    c.add-4.ensures.added
