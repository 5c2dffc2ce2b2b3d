use Rattle.std.proofs.Common.{◌≡◌, ◌∙◌}
use Rattle.si_base.specs.Bits.{ones}
use Rattle.si_cube.proofs.LiteralLemmas.{of_code_is, within-mask}
use Rattle.si_cube.proofs.cube.Cube.of_code.Goals as goal

pub invariant_of-result : goal.invariant_of-result
invariant_of-result c = rw (← c.care.view_is) (within-mask _ _)

pub returns : goal.returns
returns c =
    let care_is : c.care.inside.0 ≡ ones c.args.signals = c.care.view_is ∙ c.ones-care.ensures in
    rw (← c.code.view_is, ← c.care.view_is, care_is) (of_code_is _ _ c.requires)
