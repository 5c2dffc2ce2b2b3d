use Rattle.std.proofs.Common.{◌≡◌, map, take}
use Rattle.si_explain.proofs.EventLemmas.{event_of}
use Rattle.si_explain.proofs.events.enabled_events.Given as goal

abbrev pub invariant-loop-arc : goal.invariant-loop-arc
invariant-loop-arc l = l.events.items ≡ map event_of (take l.arc-index l.out)
