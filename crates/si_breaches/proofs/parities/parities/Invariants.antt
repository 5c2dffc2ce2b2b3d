use Rattle.std.proofs.Common.{◌^◌}
use Rattle.si_breaches.specs.Loops.Jumps.{AreJumps}
use Rattle.si_breaches.proofs.parities.parities.Given as goal

abbrev pub invariant-loop-round : goal.invariant-loop-round
invariant-loop-round l = AreJumps l.graph (2 ^ l._round) l.jumps.items
