use Rattle.std.proofs.Common.{◌≡◌, ◌+◌, List, length, ap, sym, ◌∙◌, arith}
use Rattle.si_base.specs.Limits.{code_width}
use Rattle.si_base.specs.declared.ids.Literal.{Literal}
use Rattle.si_suggest.proofs.LiteralCounts.{left, left_all, left_none, left_skip, left_more}
use Rattle.si_suggest.proofs.literals.cube_literals.Goals as goal
use Rattle.si_suggest.proofs.literals.cube_literals.Goals.{then-get, else-get}

pub loop-i-preserved : goal.loop-i-preserved
loop-i-preserved c = elim c.if-get.branch [
  | then-get w ↦ (
      let more = left_more c.cube.inside.care c.cube.inside.value c.loop-i.i c.loop-i-test.true
      (sym c.get.ensures ∙ w.if-get.true) in
      record {
        few = omega (arith, w.count-is, c.loop-i.invariant.few);
        counted = omega (arith, w.count-is, more, c.loop-i.invariant.counted);
      })
  | else-get w ↦ (
      let skip = left_skip c.cube.inside.care c.cube.inside.value c.loop-i.i c.loop-i-test.true
      (sym c.get.ensures ∙ w.if-get.false) in
      record {
        few = omega (arith, w.count-is, c.loop-i.invariant.few);
        counted = omega (arith, w.count-is, skip, c.loop-i.invariant.counted);
      })
]

pub returns : goal.returns
returns c =
    let care = c.cube.inside.care in
    let value = c.cube.inside.value in
    let ended : c.loop-i.i ≡ code_width = omega arith in
    let whole : c.loop-i.count + left care value code_width ≡ left care value 0 =
    rw ended at c.loop-i.invariant.counted in
    let all : left care value 0 ≡ length c.args.cube.now =
    left_all care value ∙ ap (λ (cube : List Literal). length cube) c.cube.view_is in
    omega (arith, whole, all, left_none care value)
