use Rattle.std.proofs.Common.{ℕ, ◌<◌}
use Rattle.si_cover.specs.Mono.{CoversOutside}
use Rattle.si_cover.proofs.mono.first_outside.Given as goal

abbrev pub invariant-loop-s : goal.invariant-loop-s
invariant-loop-s l = (t : ℕ) → t < l.s → CoversOutside l.graph l.region.er l.region.qr l.cube t → ⊥
