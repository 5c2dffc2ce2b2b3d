use Rattle.std.proofs.Common.{◌<◌, ◌∙◌, ℕ, sym, ap, subst}
use Rattle.si_base.specs.Sets.{IsIn}
use Rattle.si_base.specs.Graph.{StateGraph, IsGraph}
use Rattle.si_base.specs.Codes.{CodedGraph}
use Rattle.si_candidates.specs.Interval.{IsInterval}
use Rattle.si_candidates.proofs.IntervalLemmas.{interval_of}
use Rattle.si_candidates.proofs.interval.interval.Goals as goal

pub returns : goal.returns
returns c =
    let g = c.graph-g.result.now in
    let all = c.in_ok-all.all in
    let everywhere : (s : ℕ) → s < g.states → IsIn all s = rw c.states.ensures at c.in_ok-all.ensures.all in
    let is = subst IsGraph (sym c.graph-g.ensures.same) c.graph-g.ensures.coded.graph_is in
    let same = c.graph-g.ensures.same ∙ ap (λ (d : CodedGraph). d.graph) c.coded.ensures.same in
    subst (λ (h : StateGraph). IsInterval h c.args.from.now c.args.stop c.in_ok-set.set) same
    (interval_of g c.args.stop all c.args.from.now c.in_ok-set.set is everywhere
    c.in_ok-set.ensures)
