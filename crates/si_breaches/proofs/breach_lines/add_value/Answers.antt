use Rattle.si_words.proofs.WritingLemmas.{left_as}
use Rattle.si_breaches.proofs.BreachLines.{value_by_calls}
use Rattle.si_breaches.proofs.breach_lines.add_value.Goals as goal

pub returns : goal.returns
returns c = left_as _ _ _ _ (value_by_calls c.args.text.now c.args.signals.now c.args.states.now c.args.a c.args.s
    c.args.walk.now _ _ _ _ _ _ c.signal_name.ensures c.name_at.ensures c.in_ok-add.ensures.added
    c.in_ok-add_word.ensures c.in_ok-add_word-2.ensures c.in_ok-add_events.ensures) c.add-2.ensures.added
