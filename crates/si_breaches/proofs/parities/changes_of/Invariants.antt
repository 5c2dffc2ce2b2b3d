use Rattle.std.proofs.Common.{◌≡◌, map, take}
use Rattle.si_breaches.specs.declared.parities.Jump.{Jump}
use Rattle.si_breaches.proofs.parities.changes_of.Given as goal

abbrev pub invariant-loop-jump : goal.invariant-loop-jump
invariant-loop-jump l = l.codes.items ≡ map (λ (j : Jump). j.change) (take l.jump-index l.jumps)
