use Rattle.std.proofs.Common.{◌<◌, ◌*◌, ◌%◌, ◌^◌, subst, sym}
use Rattle.std.specs.Int.{w128, bit_not}
use Rattle.si_base.specs.Limits.{code_width}
use Rattle.si_cube.specs.Literals.{IsWithin}
use Rattle.si_cube.proofs.LiteralLemmas.{drop_is, within-and}
use Rattle.si_cube.proofs.cube.Cube.drop_literal.Goals as goal

pub invariant_of-result : goal.invariant_of-result
invariant_of-result c =
    let within = subst (λ f. IsWithin f.care f.value) (sym c.self-inside.view_is) c.self.invariant in
    within-and _ _ (bit_not w128 (1 * 2 ^ c.s.inside.0 % 2 ^ code_width)) within

pub returns : goal.returns
returns c =
    let small = subst (λ n. n < code_width) (sym c.s.view_is) c.requires in
    rw (← c.self.view_is, ← c.self-inside.view_is, ← c.s.view_is) (drop_is _ _ _ small)
