use Rattle.std.proofs.Common.{◌∙◌, ℕ, sym, ap, subst}
use Rattle.std.proofs.lemmas.List.{length-map}
use Rattle.si_base.specs.declared.ids.Event.{Event}
use Rattle.si_base.specs.Bits.{bit}
use Rattle.si_base.specs.Graph.{StateGraph, IsGraph}
use Rattle.si_base.specs.Codes.{CodedGraph}
use Rattle.si_closures.specs.Loops.WordSearch.{column}
use Rattle.si_closures.specs.Loops.Words.{IsEventAt}
use Rattle.si_candidates.specs.Interval.{IsInterval}
use Rattle.si_candidates.proofs.IntervalLemmas.{intervals_of}
use Rattle.si_candidates.proofs.intervals.Asked.intervals.Goals as goal

pub returns-clause-size : goal.returns-clause-size
returns-clause-size c =
    let same = c.graph-g.ensures.same ∙ ap (λ (d : CodedGraph). d.graph) c.coded.ensures.same in
    sym (length-map c.in_ok-words.words.items (λ (w : ℕ). bit w 0)) ∙ (c.in_ok-words.ensures 0).size
    ∙ ap (λ (g : StateGraph). g.states) same

pub returns-clause-intervals : goal.returns-clause-intervals
returns-clause-intervals c =
    let g = c.graph-g.result.now in
    let seeds = c.args.self.now.seeds.items in
    let stops = c.args.self.now.stops.items in
    let words = c.in_ok-words.words.items in
    let is = subst IsGraph (sym c.graph-g.ensures.same) c.graph-g.ensures.coded.graph_is in
    let others = rw (c.signals.ensures, c.as_slice.ensures.value) at c.in_ok-passes.ensures.passes in
    let all = rw c.states.ensures at c.in_ok-within.ensures in
    let closures = rw (c.deref.ensures.value, c.deref-2.ensures.value, c.as_slice-2.ensures.value)
    at c.in_ok-words.ensures in
    let same = c.graph-g.ensures.same ∙ ap (λ (d : CodedGraph). d.graph) c.coded.ensures.same in
    subst (λ (h : StateGraph). (k : ℕ) (stop : Event) → IsEventAt stops k stop
    → IsInterval h (column k seeds) stop (column k words)) same
    (intervals_of g stops c.in_ok-passes.passes.items c.in_ok-within.within.items seeds words is c.requires.few others
    all closures)
