use Rattle.si_words.proofs.WritingLemmas.{left_as}
use Rattle.si_explain.proofs.EventLemmas.{inputs_line_by_calls}
use Rattle.si_explain.proofs.events.add_inputs_line.Goals as goal

pub returns : goal.returns
returns c = left_as _ _ _ _ (inputs_line_by_calls c.args.text.now c.args.signals.now c.args.states.now c.args.s c.args.t
    c.args.events.now _ _ _ _ _ _ c.name_at.ensures c.name_at-2.ensures c.in_ok-add.ensures.added
    c.in_ok-add_word.ensures c.in_ok-add_word-2.ensures c.in_ok-add_events.ensures) c.add-2.ensures.added
