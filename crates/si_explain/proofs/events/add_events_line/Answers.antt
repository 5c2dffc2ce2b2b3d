use Rattle.si_words.proofs.WritingLemmas.{left_as}
use Rattle.si_explain.proofs.EventLemmas.{events_line_by_calls}
use Rattle.si_explain.proofs.events.add_events_line.Goals as goal

pub returns : goal.returns
returns c = left_as _ _ _ _ (events_line_by_calls c.args.text.now c.args.word.now c.args.signals.now c.args.states.now
    c.args.s c.args.events.now _ _ _ _ c.name_at.ensures c.in_ok-add.ensures.added c.in_ok-add_word.ensures
    c.in_ok-add_events.ensures) c.add-2.ensures.added
