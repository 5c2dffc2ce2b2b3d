use Rattle.std.proofs.Common.{◌≡◌, ℕ, ◌<◌, get_or}
use Rattle.si_base.specs.Codes.{code}
use Rattle.si_cube.specs.Cubes.{Covers}
use Rattle.si_cover.specs.Loops.Growing.{IsGrowing}
use Rattle.si_cover.proofs.mono.component_cube.Given as goal

abbrev pub invariant-loop-s : goal.invariant-loop-s
invariant-loop-s l = record {
  grows : IsGrowing l.graph l.region.er l.region.qr l.cube;
  covers : (j t : ℕ) → j < l.s-index → get_or l.er j t ≡ t → Covers l.cube (code l.graph t);
}
