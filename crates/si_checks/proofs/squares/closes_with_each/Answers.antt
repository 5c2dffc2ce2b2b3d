use Rattle.std.proofs.Common.{refl, subst}
use Rattle.std.proofs.lemmas.List.{take_all}
use Rattle.std.proofs.lemmas.List.Elements.{All-more}
use Rattle.si_base.specs.declared.graph.Edge.{Edge}
use Rattle.si_checks.specs.Loops.Squares.{ClosesSquare}
use Rattle.si_checks.proofs.squares.closes_with_each.Goals as goal

pub loop-y-preserved : goal.loop-y-preserved
loop-y-preserved c =
    let Closes : Edge → Type 0 = λ y. ClosesSquare c.args.graph.now c.args.x.now y in
    All-more Closes c.args.others.now c.loop-y.y-index c.y-item.result c.loop-y-test.true c.loop-y.invariant
    (subst Closes c.y-item.is (c.if-not-closes.ensures.0 refl))

pub returns : goal.returns
returns c = (λ _. rw (take_all c.loop-y.y-index c.args.others.now c.loop-y-test.false) at c.loop-y.invariant, λ _. refl)
