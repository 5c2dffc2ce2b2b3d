use Rattle.std.proofs.Common.{◌≡◌, [], drop}
use Rattle.si_cube.specs.Rule as rule
use Rattle.si_cube.proofs.growth.grown_cubes.Given as goal

abbrev pub invariant-loop-code : goal.invariant-loop-code
invariant-loop-code l =
    rule.grown_cubes l.signals l.forbidden l.cubes.items (drop l.code-index l.required)
    ≡ rule.grown_cubes l.signals l.forbidden [] l.required
