use Rattle.std.proofs.Common.{◌≡◌, ◌+◌, List, subst, sym, ap, ◌∙◌}
use Rattle.si_base.specs.declared.ids.Literal.{Literal}
use Rattle.si_cube.specs.Covers.{without}
use Rattle.si_cube.specs.Rule.{covers_any}
use Rattle.si_cube.proofs.OrderLemmas.{IsClear, clear_start, clear_drop, clear_keep, last_matter}
use Rattle.si_cube.proofs.growth.grown.Goals as goal
use Rattle.si_cube.proofs.growth.grown.Goals.{then-not-covers_any, else-not-covers_any}

pub loop-s-init : goal.loop-s-init
loop-s-init c =
    rw c.of_code-cube.ensures (clear_start c.args.signals c.args.forbidden.now c.args.code c.requires.fits
    c.requires.forbidden_fit c.requires.not_forbidden)

pub loop-s-preserved : goal.loop-s-preserved
loop-s-preserved c =
    let Goes : List Literal
    → Type 0 = λ cube. IsClear c.args.signals c.args.forbidden.now c.args.code (c.loop-s.s + 1) cube in
    let smaller : c.drop_literal-smaller.result ≡ without c.loop-s.s c.loop-s.cube = c.drop_literal-smaller.ensures in
    let test : c.covers_any.result ≡ covers_any c.args.forbidden.now (without c.loop-s.s c.loop-s.cube) =
    c.covers_any.ensures ∙ ap (covers_any c.differing_last.result.now) smaller
    ∙ last_matter c.args.signals c.args.forbidden.now c.args.code c.loop-s.s c.loop-s.cube
    c.differing_last.result.now c.loop-s-test.true c.requires.fits c.requires.forbidden_fit
    c.loop-s.invariant.growing c.loop-s.invariant.avoids c.differing_last.ensures in
    elim c.if-not-covers_any.branch [
      | then-not-covers_any w ↦
          subst Goes (sym (w.cube-is ∙ smaller))
          (clear_drop c.args.signals c.args.forbidden.now c.args.code c.loop-s.s c.loop-s.cube c.loop-s-test.true
          (sym test ∙ w.if-not-covers_any.true) c.loop-s.invariant)
      | else-not-covers_any w ↦
          subst Goes (sym w.cube-is) (clear_keep c.args.signals c.args.forbidden.now c.args.code c.loop-s.s
          c.loop-s.cube c.loop-s-test.true (sym test ∙ w.if-not-covers_any.false) c.loop-s.invariant)
    ]
