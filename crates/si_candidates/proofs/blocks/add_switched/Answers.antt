use Rattle.std.proofs.Common.{◌∙◌, ap, subst}
use Rattle.si_base.specs.Graph.{StateGraph}
use Rattle.si_base.specs.Codes.{CodedGraph, IsCoded}
use Rattle.si_regions.specs.declared.regions.Component.{Component}
use Rattle.si_regions.proofs.StateLists.{all_below}
use Rattle.si_candidates.specs.Blocks.{state_set}
use Rattle.si_candidates.proofs.AddingLemmas.{switched_below}
use Rattle.si_candidates.proofs.BlockLists.{mapped_more}
use Rattle.si_candidates.proofs.blocks.add_switched.Goals as goal

pub add_states-requires : goal.add_states-requires
add_states-requires c =
    let d = c.args.graph.now in
    let r = c.component-item.result in
    let states = c.states.ensures ∙ ap (λ (g : StateGraph). g.states) c.graph-g.ensures.same
    ∙ ap (λ (d : CodedGraph). d.graph.states) c.coded.ensures.same in
    let coded = subst IsCoded c.coded.ensures.same c.graph-g.ensures.coded in
    rw states (all_below c.as_slice.result.now r.sr d.graph.states c.as_slice.ensures.states
    (switched_below d coded.graph_is c.args.components.now c.requires c.loop-component.component-index r
    c.loop-component-test.true c.component-item.is))

pub loop-component-preserved : goal.loop-component-preserved
loop-component-preserved c =
    let d = c.args.graph.now in
    let states = c.states.ensures ∙ ap (λ (g : StateGraph). g.states) c.graph-g.ensures.same
    ∙ ap (λ (d : CodedGraph). d.graph.states) c.coded.ensures.same in
    mapped_more (λ (x : Component). state_set d.graph.states x.sr) c.args.components.now
    c.loop-component.component-index c.component-item.result _ _ _ c.loop-component-test.true c.component-item.is
    c.loop-component.invariant
    (rw (states, c.as_slice.ensures.states) at c.in_ok-add_states.ensures)
