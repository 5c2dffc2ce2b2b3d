use Rattle.std.proofs.Common.{◌<◌, ◌^◌, arith, subst, sym}
use Rattle.si_base.specs.Limits.{code_width}
use Rattle.si_cube.specs.Literals.{IsWithin}
use Rattle.si_cube.proofs.LiteralLemmas.{covers_is}
use Rattle.si_cube.proofs.cube.Cube.covers.Goals as goal

pub returns : goal.returns
returns c =
    let small : c.self-inside.inside.0.0.0 < 2 ^ code_width = omega arith in
    let fields = c.self-inside.view_is in
    let within = subst (λ f. IsWithin f.care f.value) (sym fields) c.self.invariant in
    rw (← c.self.view_is, ← fields, ← c.code.view_is) (covers_is _ _ _ small within)
