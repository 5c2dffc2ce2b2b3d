use Rattle.std.proofs.Common.{sym}
use Rattle.si_cube.proofs.growth.grown_cubes.Goals as goal

pub grown-requires-clause-not_forbidden : goal.grown-requires-clause-not_forbidden
grown-requires-clause-not_forbidden c =
    λ there. c.requires.meetable c.code-item.result
    (c.loop-code.code-index, c.loop-code-test.true, sym c.code-item.is) there
