use Rattle.std.proofs.Common.{◌<◌, ◌^◌, arith, subst, sym}
use Rattle.si_base.specs.Limits.{code_width}
use Rattle.si_cube.specs.Literals.{IsWithin}
use Rattle.si_cell.proofs.PinCubeLemmas.{narrow_care, narrow_value}
use Rattle.si_cell.proofs.pin_sum.PinCube.of.Goals as goal

pub overflow_cast-result : goal.overflow_cast-result
overflow_cast-result c =
    let small : c.cube-inside.inside.0.0.0 < 2 ^ code_width = omega arith in
    let narrow : c.cube-inside.inside.0.0.0 < 2 ^ 8 =
    narrow_care _ _ small (rw (← c.cube.view_is, ← c.cube-inside.view_is) at c.requires) in
    omega (arith, narrow)

pub overflow_cast-result-2 : goal.overflow_cast-result-2
overflow_cast-result-2 c =
    let small : c.cube-inside.inside.0.0.0 < 2 ^ code_width = omega arith in
    let within = subst (λ f. IsWithin f.care f.value) (sym c.cube-inside.view_is) c.cube.invariant in
    let narrow : c.cube-inside.inside.0.1.0.0 < 2 ^ 8 =
    narrow_value _ _ small (rw (← c.cube.view_is, ← c.cube-inside.view_is) at c.requires) within in
    omega (arith, narrow)
