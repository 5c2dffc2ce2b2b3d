use Rattle.std.proofs.Common.{◌<◌, ◌^◌, arith, subst, sym}
use Rattle.si_base.specs.Limits.{code_width}
use Rattle.si_cube.specs.Literals.{IsWithin}
use Rattle.si_from_equations.proofs.ProductLemmas.{product_none, product_some, within_both}
use Rattle.si_from_equations.proofs.products.product.Goals as goal

pub returns-then-differ-left-ne0 : goal.returns-then-differ-left-ne0
returns-then-differ-left-ne0 c =
    let within = subst (λ f. IsWithin f.care f.value) (sym c.left-inside.view_is) c.left.invariant in
    let within2 = subst (λ f. IsWithin f.care f.value) (sym c.right-inside.view_is) c.right.invariant in
    let small : c.right-inside.inside.0.0.0 < 2 ^ code_width = omega arith in
    rw (← c.left.view_is, ← c.left-inside.view_is, ← c.right.view_is, ← c.right-inside.view_is)
    (sym (product_none _ _ _ _ within within2 small c.if-differ-left-ne0.true))

pub invariant_of-result : goal.invariant_of-result
invariant_of-result c =
    let within = subst (λ f. IsWithin f.care f.value) (sym c.left-inside.view_is) c.left.invariant in
    let within2 = subst (λ f. IsWithin f.care f.value) (sym c.right-inside.view_is) c.right.invariant in
    within_both _ _ _ _ within within2

pub returns : goal.returns
returns c =
    let within = subst (λ f. IsWithin f.care f.value) (sym c.left-inside.view_is) c.left.invariant in
    let within2 = subst (λ f. IsWithin f.care f.value) (sym c.right-inside.view_is) c.right.invariant in
    rw (← c.left.view_is, ← c.left-inside.view_is, ← c.right.view_is, ← c.right-inside.view_is)
    (sym (product_some _ _ _ _ within within2 c.if-differ-left-ne0.false))
