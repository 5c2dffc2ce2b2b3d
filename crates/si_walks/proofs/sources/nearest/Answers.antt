use Rattle.std.proofs.Common.{◌≡◌, ℕ, ◌∙◌, sym, subst, arith, length}
use Rattle.std.proofs.lemmas.Bool.{true≢false}
use Rattle.si_walks.specs.Loops.Sources.{IsNearestOrNone}
use Rattle.si_walks.proofs.SourceNearest.{none_yet, better, no_better}
use Rattle.si_walks.proofs.sources.nearest.Goals as goal
use Rattle.si_walks.proofs.sources.nearest.Goals.{then-has_fewer, else-has_fewer}

pub loop-s-init : goal.loop-s-init
loop-s-init c = none_yet c.args.first.now c.args.second.now

pub loop-s-preserved : goal.loop-s-preserved
loop-s-preserved c =
    let first = c.args.first.now in
    let second = c.args.second.now in
    elim c.if-has_fewer.branch [
      | then-has_fewer w ↦ rw w.best-is (better first second c.loop-s.s c.loop-s.best c.loop-s.invariant
          (c.has_fewer.ensures.0 w.if-has_fewer.true))
      | else-has_fewer w ↦ rw w.best-is (no_better first second c.loop-s.s c.loop-s.best c.loop-s.invariant
          (λ fewer. true≢false (sym (c.has_fewer.ensures.1 fewer) ∙ w.if-has_fewer.false)))
    ]

pub returns : goal.returns
returns c =
    let first = c.args.first.now in
    let all : c.loop-s.s ≡ length first = omega (arith, c.loop-s-test.false, c.loop-s.auto.s-end) in
    subst (λ (k : ℕ). IsNearestOrNone first c.args.second.now k c.loop-s.best) all c.loop-s.invariant
