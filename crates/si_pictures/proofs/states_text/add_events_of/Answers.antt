use Rattle.si_words.proofs.WritingLemmas.{left_as}
use Rattle.si_pictures.proofs.CodeLemmas.{events_by_calls}
use Rattle.si_pictures.proofs.states_text.add_events_of.Goals as goal

pub returns : goal.returns
returns c =
    left_as _ _ _ _ (events_by_calls c.args.graph.now c.args.s c.args.z c.args.text.now _
    c.in_ok-add_event_if.ensures) c.add_event_if-2.ensures
