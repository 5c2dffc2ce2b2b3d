use Rattle.std.proofs.Common.{◌≡◌, ◌≢◌, ℕ, ◌<◌, ◌^◌, List, ◌++◌, ap, arith}
use Rattle.si_base.specs.Limits.{code_width}
use Rattle.si_words.specs.Loops.Writing.{spaced}
use Rattle.si_words.proofs.WritingLemmas.{left_as}
use Rattle.si_cube.proofs.WriteSumsLemmas.{cube_none, cube_some}
use Rattle.si_cube.proofs.write_sums.add_cube.Goals as goal

pub returns-then-cube-eq0 : goal.returns-then-cube-eq0
returns-then-cube-eq0 c =
    let same : c.cube-inside.inside.0.0.0 ≡ c.cube.inside.care = cc in
    let none : c.cube.inside.care ≡ 0 = cc in
    left_as _ _ _ _ (rw (← c.cube.view_is)
    (cube_none c.args.signals.now c.cube.inside.care c.cube.inside.value c.args.text.now none)) c.add_word.ensures

pub returns : goal.returns
returns c =
    let same : c.cube-inside.inside.0.0.0 ≡ c.cube.inside.care = cc in
    let fits : c.cube-inside.inside.0.0.0 < 2 ^ code_width = omega arith in
    let small : c.cube.inside.care < 2 ^ code_width = omega arith in
    let some : c.cube.inside.care ≢ 0 = omega arith in
    let words = ap (λ (w : List (List ℕ)). c.args.text.now ++ spaced w)
    (cube_some c.args.signals.now c.cube.inside.care c.cube.inside.value small some) in
    left_as _ _ _ _ (rw (← c.cube.view_is) words) c.add_cube_literals.ensures
