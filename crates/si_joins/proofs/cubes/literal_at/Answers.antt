use Rattle.std.proofs.Common.{◌<◌, ◌∙◌, Some, ap, sym, arith}
use Rattle.si_base.specs.Limits.{code_width}
use Rattle.si_joins.specs.Gates.{literal_at}
use Rattle.si_joins.proofs.CubeLemmas.{rest_elsewhere, rest_first, rest_found, rest_without}
use Rattle.si_joins.proofs.cubes.literal_at.Goals as goal
use Rattle.si_joins.proofs.cubes.literal_at.Goals.{else-get-via-then-get+else-place_in-k, else-get-via-else-get}

pub loop-z-init : goal.loop-z-init
loop-z-init c =
    rest_first c.args.to.now c.args.k c.cube.inside.care c.cube.inside.value c.args.cube.now c.cube.view_is

pub returns-then-place_in-k : goal.returns-then-place_in-k
returns-then-place_in-k c =
    let within : c.loop-z.z < code_width = omega (arith, c.loop-z-test.true) in
    ap (λ b. Some b) c.get-then-place_in-k.ensures
    ∙ rest_found c.args.to.now c.args.k c.loop-z.z c.cube.inside.care c.cube.inside.value
    (literal_at c.args.to.now c.args.cube.now c.args.k) within c.loop-z.invariant (sym c.get.ensures ∙ c.if-get.true)
    (sym c.place_in.ensures ∙ c.if-place_in-k.true)

pub loop-z-preserved : goal.loop-z-preserved
loop-z-preserved c =
    let within : c.loop-z.z < code_width = omega (arith, c.loop-z-test.true) in
    let all = literal_at c.args.to.now c.args.cube.now c.args.k in
    elim c.else-get.branch [
      | else-get-via-then-get+else-place_in-k w ↦ rest_elsewhere c.args.to.now c.args.k c.loop-z.z c.cube.inside.care
          c.cube.inside.value all within c.loop-z.invariant (sym c.get.ensures ∙ w.if-get.true)
          (λ same. w.if-place_in-k.false (w.place_in.ensures ∙ same))
      | else-get-via-else-get w ↦ rest_without c.args.to.now c.args.k c.loop-z.z c.cube.inside.care c.cube.inside.value
          all within c.loop-z.invariant (sym c.get.ensures ∙ w.if-get.false)
    ]
