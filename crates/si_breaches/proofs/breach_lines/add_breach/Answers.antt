use Rattle.si_words.proofs.WritingLemmas.{left_as}
use Rattle.si_breaches.proofs.BreachLines.{breach_by_calls}
use Rattle.si_breaches.proofs.breach_lines.add_breach.Goals as goal

pub returns : goal.returns
returns c = left_as _ _ _ _ (breach_by_calls c.args.text.now c.args.word.now c.args.signals.now c.args.states.now
    c.args.s c.args.events.now c.args.ends.now c.args.walk.now _ _ _ _ _ _ c.name_at.ensures
    c.in_ok-add.ensures.added c.in_ok-add_word.ensures c.in_ok-add_events.ensures c.in_ok-add_states.ensures
    c.in_ok-add_events-2.ensures) c.add-2.ensures.added
