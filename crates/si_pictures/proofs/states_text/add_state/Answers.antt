use Rattle.si_words.proofs.WritingLemmas.{left_as}
use Rattle.si_pictures.proofs.CodeLemmas.{state_by_calls}
use Rattle.si_pictures.proofs.states_text.add_state.Goals as goal

pub returns : goal.returns
returns c =
    left_as _ _ _ _ (state_by_calls c.args.seen.now c.args.states.now c.args.s c.args.text.now _ _ _ _
    c.name_at.ensures c.in_ok-add.ensures.added c.in_ok-add_code_words.ensures
    (rw c.graph.ensures at c.in_ok-add_events.ensures)) c.add-2.ensures.added
