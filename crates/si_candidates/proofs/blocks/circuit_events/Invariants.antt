use Rattle.std.proofs.Common.{◌≡◌, take}
use Rattle.si_candidates.specs.Blocks.{driven_events}
use Rattle.si_candidates.proofs.blocks.circuit_events.Given as goal

abbrev pub invariant-loop-z : goal.invariant-loop-z
invariant-loop-z l = l.events.items ≡ driven_events 0 (take l.z l.signals)
