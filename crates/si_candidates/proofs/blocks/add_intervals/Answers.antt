use Rattle.std.proofs.Common.{◌<◌, ◌∙◌, All, length, refl, sym, ap, subst, arith}
use Rattle.si_base.specs.declared.ids.Event.{Event}
use Rattle.si_base.specs.Graph.{StateGraph}
use Rattle.si_base.specs.Codes.{CodedGraph, IsCoded}
use Rattle.si_regions.proofs.StateLists.{all_below}
use Rattle.si_candidates.specs.Blocks.{driven_events}
use Rattle.si_candidates.proofs.AddingLemmas.{switched_below, driven_within}
use Rattle.si_candidates.proofs.AskLemmas.{component_more, adds_each}
use Rattle.si_candidates.proofs.blocks.add_intervals.Goals as goal

pub ask-requires-clause-from : goal.ask-requires-clause-from
ask-requires-clause-from c =
    let d = c.args.graph.now in
    let r = c.component-item.result in
    let coded = subst IsCoded c.coded.ensures.same c.graph-g.ensures.coded in
    all_below c.as_slice.result.now r.sr d.graph.states c.as_slice.ensures.states
    (switched_below d coded.graph_is c.args.components.now c.requires c.loop-component.component-index r
    c.loop-component-test.true c.component-item.is)

pub ask-requires-clause-stops : goal.ask-requires-clause-stops
ask-requires-clause-stops c =
    let signals = c.args.graph.now.graph.signals in
    let same = c.signals.ensures ∙ ap (λ (g : StateGraph). g.signals) c.graph-g.ensures.same
    ∙ ap (λ (d : CodedGraph). d.graph.signals) c.coded.ensures.same in
    subst (λ es. All (λ (e : Event). e.sig < length signals) es)
    (sym (c.as_slice-in-loop-component.ensures.value ∙ c.in_ok-stops.ensures ∙ ap (driven_events 0) same))
    (driven_within 0 (length signals) signals (omega arith))

pub loop-component-preserved : goal.loop-component-preserved
loop-component-preserved c =
    let d = c.args.graph.now in
    let signals = c.signals.ensures ∙ ap (λ (g : StateGraph). g.signals) c.graph-g.ensures.same
    ∙ ap (λ (d : CodedGraph). d.graph.signals) c.coded.ensures.same in
    let stops = c.as_slice-in-loop-component.ensures.value ∙ c.in_ok-stops.ensures ∙ ap (driven_events 0) signals in
    record {
      ready = c.in_ok-ask.ensures.ready;
      known = c.in_ok-ask.ensures.within;
      adds = component_more d.graph (driven_events 0 d.graph.signals) c.args.components.now
          c.loop-component.component-index c.component-item.result c.as_slice.result.now
          c.as_slice-in-loop-component.result.now _ _ _ _ _ _ c.loop-component-test.true c.component-item.is
          c.as_slice.ensures.states stops c.loop-component.invariant.adds c.in_ok-ask.ensures.adds;
    }

pub returns : goal.returns
returns c = adds_each c.args.graph.now.graph (driven_events 0 c.args.graph.now.graph.signals) c.args.components.now
    c.loop-component.component-index _ _ _ _ _ c.loop-component-test.false refl c.loop-component.invariant.adds
    c.in_ok-add_asked.ensures
