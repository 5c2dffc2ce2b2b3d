use Rattle.std.proofs.Common.{◌≡◌, ◌∙◌, None, Some, List, [], ◌∷◌, ◌++◌, map, sym, ap, ap₂}
use Rattle.std.proofs.lemmas.List.{map-append, map-id}
use Rattle.std.proofs.lemmas.List.Elements.{All-nil, All-push}
use Rattle.std.proofs.lemmas.Iterator.Adapters.{YieldsList-from_vec}
use Rattle.std.proofs.lemmas.Iterator.Consumers.{YieldsList-end, YieldsList-turn}
use Rattle.si_base.specs.Graph.{StateGraph}
use Rattle.si_regions.specs.declared.regions.Component.{Component}
use Rattle.si_regions.specs.Regions.{IsRegion, component_of}
use Rattle.si_regions.proofs.RegionComponents.{are_regions, component_at, event_within, idle_search}
use Rattle.si_regions.proofs.regions.regions.Goals as goal

pub loop-component-init : goal.loop-component-init
loop-component-init c =
    let d = c.args.graph.now in
    let states = c.states.ensures ∙ ap (λ (h : StateGraph). h.states) c.graph.ensures.same in
    record {
      idle = rw c.in_ok-search.ensures (idle_search d.graph.states c.states.result states);
      rests = λ e is. (let never : None ≡ Some e = sym c.in_ok-rests.ensures ∙ is in absurd cc);
      each = rw c.new-out.ensures.items (All-nil (IsRegion d));
      components_are = ap (map component_of) c.new-out.ensures.items;
    }

pub come_after-requires-clause-sig : goal.come_after-requires-clause-sig
come_after-requires-clause-sig c =
    let d = c.args.graph.now in
    let x = c.in-Some.component in
    let gives = c.into_iter-component-iterator.ensures.into_iter_gives in
    let chain = YieldsList-from_vec {s = c.into_iter-component-iterator.result} _ gives.0
    (gives.1 ∙ c.in_ok-component-items.component-items.ok.0) in
    let turn = YieldsList-turn chain c.loop-component.yielded _ c.loop-component.yielded_by _ c.next.new.self x
    c.in-Some.is c.next.ensures.steps in
    event_within d x c.graph.ensures.coded.graph_is
    (component_at d _ _ x c.in_ok-component-items.ensures turn.0 turn.1)

pub region_of-requires-clause-component : goal.region_of-requires-clause-component
region_of-requires-clause-component c =
    let d = c.args.graph.now in
    let x = c.in-Some.component in
    let gives = c.into_iter-component-iterator.ensures.into_iter_gives in
    let chain = YieldsList-from_vec {s = c.into_iter-component-iterator.result} _ gives.0
    (gives.1 ∙ c.in_ok-component-items.component-items.ok.0) in
    let turn = YieldsList-turn chain c.loop-component.yielded _ c.loop-component.yielded_by _ c.next.new.self x
    c.in-Some.is c.next.ensures.steps in
    component_at d _ _ x c.in_ok-component-items.ensures turn.0 turn.1

pub loop-component-preserved : goal.loop-component-preserved
loop-component-preserved c =
    let d = c.args.graph.now in
    let before = c.loop-component.invariant in
    let r = c.in_ok-region_of.field-0 in
    record {
      idle = c.in_ok-region_of.ensures.idle;
      rests = c.in_ok-come_after.ensures.after;
      each = rw c.in_ok-push.ensures.items
          (All-push (IsRegion d) c.loop-component.out.items r before.each c.in_ok-region_of.ensures.region);
      components_are = ap (map component_of) c.in_ok-push.ensures.items
          ∙ map-append component_of c.loop-component.out.items (r ∷ [])
          ∙ ap₂ (λ (xs : List Component) (x : Component). xs ++ x ∷ []) before.components_are
          c.in_ok-region_of.ensures.same;
    }

pub returns : goal.returns
returns c =
    let gives = c.into_iter-component-iterator.ensures.into_iter_gives in
    let chain = YieldsList-from_vec {s = c.into_iter-component-iterator.result} _ gives.0
    (gives.1 ∙ c.in_ok-component-items.component-items.ok.0) in
    let all = YieldsList-end chain c.loop-component.yielded _ c.loop-component.yielded_by _ c.next.new.self
    c.in-None.is c.next.ensures.steps in
    let yields = sym (map-id c.loop-component.yielded) ∙ all.0 in
    let so = c.loop-component.invariant in
    are_regions c.args.graph.now _ c.in_ok-component-items.ensures c.loop-component.out.items so.each
    (so.components_are ∙ yields)
