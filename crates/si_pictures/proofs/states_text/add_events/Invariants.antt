use Rattle.std.proofs.Common.{◌≡◌, ◌++◌, length}
use Rattle.si_pictures.proofs.WritingParts.{parts_from}
use Rattle.si_pictures.proofs.CodeLemmas.{events_at}
use Rattle.si_pictures.proofs.states_text.add_events.Given as goal

abbrev pub invariant-loop-i : goal.invariant-loop-i
invariant-loop-i l = l.text ++ parts_from (events_at l.graph l.s) (length l.graph.signals) l.i
    ≡ l.initial.text ++ parts_from (events_at l.graph l.s) (length l.graph.signals) 0
