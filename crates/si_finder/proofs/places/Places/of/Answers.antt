use Rattle.std.proofs.Common.{ap, ap₂, ◌∙◌, ℕ, arith}
use Rattle.si_base.specs.Codes.{CodedGraph, code}
use Rattle.si_base.specs.Graph.{StateGraph}
use Rattle.si_reached.specs.declared.state.Reached.{Reached}
use Rattle.si_finder.proofs.PlaceLemmas.{next_stands, few_places, all_stand}
use Rattle.si_finder.proofs.places.Places.of.Goals as goal

pub loop-s-preserved : goal.loop-s-preserved
loop-s-preserved c =
    let l = c.args.lineage.now in
    let s = c.loop-s.s in
    let make : ℕ → ℕ → Reached = λ a b. record { state = a; values = b } in
    let same = c.coded-current.ensures.same ∙ c.current.ensures.same in
    let values = c.code.ensures ∙ ap (λ (d : CodedGraph). code d s) same in
    let states = c.states-s-end.ensures ∙ ap (λ (g : StateGraph). g.states) c.graph.ensures.same
    ∙ ap (λ (d : CodedGraph). d.graph.states) same in
    next_stands l.given l.current s c.loop-s.set.keys c.insert.new.self.keys c.key_of.result
    (make c.origin.result c.code.result) c.current.ensures.kept (omega (arith, states, c.loop-s-test.true))
    c.key_of.ensures (ap₂ make c.origin.ensures values) c.in_ok-insert.ensures.keys c.loop-s.invariant

pub invariant_of-result : goal.invariant_of-result
invariant_of-result c =
    let l = c.args.lineage.now in
    let same = c.coded-current.ensures.same ∙ c.current.ensures.same in
    let states = c.states-s-end.ensures ∙ ap (λ (g : StateGraph). g.states) c.graph.ensures.same
    ∙ ap (λ (d : CodedGraph). d.graph.states) same in
    few_places l.given l.current c.loop-s.set.keys c.loop-s.s c.current.ensures.kept
    (omega (arith, states, c.loop-s.auto.s-end)) c.loop-s.invariant

pub returns : goal.returns
returns c =
    let l = c.args.lineage.now in
    let same = c.coded-current.ensures.same ∙ c.current.ensures.same in
    let states = c.states-s-end.ensures ∙ ap (λ (g : StateGraph). g.states) c.graph.ensures.same
    ∙ ap (λ (d : CodedGraph). d.graph.states) same in
    all_stand l.current _ c.loop-s.s (omega (arith, states, c.loop-s-test.false))
    (omega (arith, states, c.loop-s.auto.s-end)) c.loop-s.invariant
