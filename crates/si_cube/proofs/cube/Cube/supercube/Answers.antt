use Rattle.std.proofs.Common.{◌<◌, ◌^◌, arith, subst, sym}
use Rattle.si_base.specs.Limits.{code_width}
use Rattle.si_cube.specs.Literals.{IsWithin}
use Rattle.si_cube.proofs.LiteralLemmas.{supercube_is, within-supercube}
use Rattle.si_cube.proofs.LeastLemmas.{supercube_least}
use Rattle.si_cube.proofs.cube.Cube.supercube.Goals as goal

pub invariant_of-result : goal.invariant_of-result
invariant_of-result c =
    let small_value : c.self-inside.inside.0.1.0.0 < 2 ^ code_width = omega arith in
    let small_code : c.code.inside.0 < 2 ^ code_width = omega arith in
    let within = subst (λ f. IsWithin f.care f.value) (sym c.self-inside.view_is) c.self.invariant in
    within-supercube _ _ _ small_value small_code within

pub returns-clause-literals : goal.returns-clause-literals
returns-clause-literals c =
    let small_care : c.self-inside.inside.0.0.0 < 2 ^ code_width = omega arith in
    let small_value : c.self-inside.inside.0.1.0.0 < 2 ^ code_width = omega arith in
    let small_code : c.code.inside.0 < 2 ^ code_width = omega arith in
    rw (← c.self.view_is, ← c.self-inside.view_is, ← c.code.view_is)
    (supercube_is _ _ _ small_care small_value small_code)

pub returns-clause-least : goal.returns-clause-least
returns-clause-least c =
    let small_care : c.self-inside.inside.0.0.0 < 2 ^ code_width = omega arith in
    let small_value : c.self-inside.inside.0.1.0.0 < 2 ^ code_width = omega arith in
    let small_code : c.code.inside.0 < 2 ^ code_width = omega arith in
    rw (← c.self.view_is, ← c.self-inside.view_is, ← c.code.view_is)
    (supercube_least _ _ _ small_care small_value small_code)
