use Rattle.std.proofs.Common.{ℕ, length, Contains}
use Rattle.si_base.specs.Codes.{code}
use Rattle.si_cube.specs.Cubes.{Covers}
use Rattle.si_cover.specs.Loops.Growing.{IsGrowing}
use Rattle.si_cover.proofs.mono.least_falling.Given as goal

abbrev pub invariant-loop-s : goal.invariant-loop-s
invariant-loop-s l = record {
  grows : IsGrowing l.graph l.region.er l.region.qr l.cube;
  covers : (t : ℕ) → Contains l.region.er t → Covers l.cube (code l.graph t);
}

abbrev pub decreases-loop-s : goal.decreases-loop-s
decreases-loop-s l = length l.cube
