use Rattle.std.proofs.Common.{◌∙◌, ap, refl, subst}
use Rattle.si_base.specs.Codes.{CodedGraph, IsCoded}
use Rattle.si_insert.specs.Lineage.{History}
use Rattle.si_suggest.proofs.OfferLemmas.{offered, rule_done}
use Rattle.si_suggest.proofs.suggest.by_rule.Goals as goal

pub returns-in-Ok-of_style : goal.returns-in-Ok-of_style
returns-in-Ok-of_style c =
    let given = c.args.given.now in
    let style = c.args.style in
    let model = c.args.model.now in
    let states = c.args.states.now in
    let start = c.in_ok-start.start in
    let l = c.in-Ok.resolved in
    let ends = c.in-Ok.ensures.resolved in
    let made = c.in-Ok-of_style.ensures in
    let offer = offered given style model states l l c.in-Ok-of_style.circuit
    (ends.1.given_stays ∙ ap (λ (h : History). h.given) c.in_ok-start.ensures) refl ends.2.done
    made.same made.netlist made.written made.implements in
    rule_done given style model states start l ends.0 c.in-Ok-of_style.circuit c.in_ok-start.ensures
    (subst (λ (k : CodedGraph). IsCoded k) c.coded.ensures.same c.graph-graph.ensures.coded) ends.1 ends.2 offer made.same
