use Rattle.std.proofs.Common.{subst, sym}
use Rattle.si_cube.specs.Literals.{IsWithin}
use Rattle.si_cube.proofs.LiteralLemmas.{within-and}
use Rattle.si_settled.proofs.CubeLemmas.{known_literals}
use Rattle.si_settled.proofs.shown.known_part.Goals as goal

pub invariant_of-result : goal.invariant_of-result
invariant_of-result c =
    let within = subst (λ f. IsWithin f.care f.value) (sym c.cube-inside.view_is) c.cube.invariant in
    within-and _ _ c.known.inside.0 within

pub returns : goal.returns
returns c = rw (← c.cube.view_is, ← c.cube-inside.view_is, ← c.known.view_is) (known_literals _ _ _)
