use Rattle.std.proofs.Common.{◌≡◌, ◌++◌}
use Rattle.si_explain.proofs.EventLemmas.{events_from}
use Rattle.si_explain.proofs.events.add_events.Given as goal

abbrev pub invariant-loop-e : goal.invariant-loop-e
invariant-loop-e l =
    l.text ++ events_from l.signals l.events l.e-index ≡ l.initial.text ++ events_from l.signals l.events 0
