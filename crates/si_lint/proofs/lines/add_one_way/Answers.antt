use Rattle.si_words.proofs.WritingLemmas.{left_as}
use Rattle.si_lint.proofs.LineLemmas.{one_way_by_calls}
use Rattle.si_lint.proofs.lines.add_one_way.Goals as goal

pub returns : goal.returns
returns c = left_as _ _ _ _ (one_way_by_calls c.args.text.now c.args.signals.now c.args.states.now c.args.arc.now
    c.args.walk.now _ _ _ _ _ _ _ c.name_at.ensures c.name_at-2.ensures c.in_ok-add.ensures.added
    c.in_ok-add_word.ensures c.in_ok-add_events.ensures c.in_ok-add_word-2.ensures c.in_ok-add_events-2.ensures)
    c.add-2.ensures.added
