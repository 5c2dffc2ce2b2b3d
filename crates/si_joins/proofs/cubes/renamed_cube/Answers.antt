use Rattle.std.proofs.Common.{◌<◌, ◌∙◌, sym, arith}
use Rattle.si_base.specs.Limits.{code_width}
use Rattle.si_joins.proofs.CubeLemmas.{made_more, made_none, made_skip}
use Rattle.si_joins.proofs.cubes.renamed_cube.Goals as goal
use Rattle.si_joins.proofs.cubes.renamed_cube.Goals.{in-Some, in_default}

pub loop-k-init : goal.loop-k-init
loop-k-init c = made_none c.args.to.now c.args.cube.now

pub loop-k-preserved : goal.loop-k-preserved
loop-k-preserved c =
    let to = c.args.to.now in
    let cube = c.args.cube.now in
    let k = c.loop-k.k in
    let within : k < code_width = omega (arith, c.loop-k-test.true, c.requires) in
    elim c.match-literal_at.branch [
      | in-Some w ↦ rw (w.care-is, w.value-is) (made_more to cube k c.loop-k.care c.loop-k.value _ _ _ within
          c.loop-k.invariant (sym c.literal_at.ensures ∙ w.in-Some.is) w.set-care.ensures w.set-value.ensures)
      | in_default w ↦ rw (w.care-is, w.value-is) (made_skip to cube k c.loop-k.care c.loop-k.value c.loop-k.invariant
          (sym c.literal_at.ensures ∙ w.in_default.is))
    ]
