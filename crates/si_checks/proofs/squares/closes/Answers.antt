use Rattle.std.proofs.Common.{◌∙◌, sym, eqb-true, eq-eqb}
use Rattle.si_base.proofs.GraphSteps.{enables-step}
use Rattle.si_checks.proofs.SquareLemmas.{both_stay, one_gone, other_gone}
use Rattle.si_checks.proofs.squares.closes.Goals as goal

pub returns-in-Some-Some : goal.returns-in-Some-Some
returns-in-Some-Some c =
    let here = c.in-Some-Some in
    let one = rw here.is-0 at c.succ-one.ensures in
    let other = rw here.is-1 at c.succ-other.ensures in (
      λ same. both_stay c.args.graph.now c.args.x.now c.args.y.now here.w here.w2 c.requires.deterministic one other
          (eqb-true here.w here.w2 (sym c.eq.ensures ∙ same)),
      λ closes. c.eq.ensures ∙ eq-eqb here.w here.w2 (closes.meets here.w here.w2 one.step other.step),
    )

pub returns-in-Some-None : goal.returns-in-Some-None
returns-in-Some-None c =
    let one = rw c.in-Some-None.is-0 at c.succ-one.ensures in
    let gone = rw c.in-Some-None.is-1 at c.succ-other.ensures in
    one_gone c.args.graph.now c.args.x.now c.args.y.now c.is_driven.result c.is_driven.ensures gone
    (λ _. enables-step c.args.graph.now c.args.x.now.to c.args.y.now.event c.in-Some-None.field-0-0 one.step)

pub returns-in-None-Some : goal.returns-in-None-Some
returns-in-None-Some c =
    let gone = rw c.in-None-Some.is-0 at c.succ-one.ensures in
    let other = rw c.in-None-Some.is-1 at c.succ-other.ensures in
    other_gone c.args.graph.now c.args.x.now c.args.y.now c.is_driven-in-None-Some.result
    c.is_driven-in-None-Some.ensures gone
    (λ _. enables-step c.args.graph.now c.args.y.now.to c.args.x.now.event c.in-None-Some.field-0-1 other.step)
