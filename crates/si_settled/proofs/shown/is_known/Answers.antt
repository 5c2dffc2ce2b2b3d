use Rattle.std.proofs.Common.{◌<◌, ◌^◌, arith}
use Rattle.si_base.specs.Limits.{code_width}
use Rattle.si_settled.proofs.CubeLemmas.{all_known}
use Rattle.si_settled.proofs.shown.is_known.Goals as goal

pub returns : goal.returns
returns c =
    let small : c.cube-inside.inside.0.0.0 < 2 ^ code_width = omega arith in
    rw (← c.cube.view_is, ← c.cube-inside.view_is, ← c.known.view_is) (all_known _ _ _ small)
