use Rattle.std.proofs.Common.{◌≡◌, map, take}
use Rattle.si_breaches.specs.Loops.Jumps.{twice_by}
use Rattle.si_breaches.proofs.parities.doubled.Given as goal

abbrev pub invariant-loop-jump : goal.invariant-loop-jump
invariant-loop-jump l = l.twice.items ≡ map (twice_by l.jumps) (take l.jump-index l.jumps)
