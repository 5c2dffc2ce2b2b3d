use Rattle.std.proofs.Common.{◌≡◌, map, take}
use Rattle.si_sg.specs.CanonicalText.{event_word}
use Rattle.si_systems.proofs.names.event_words.Given as goal

abbrev pub invariant-loop-event : goal.invariant-loop-event
invariant-loop-event l = l.words ≡ map (event_word l.signals) (take l.event-index l.events)
