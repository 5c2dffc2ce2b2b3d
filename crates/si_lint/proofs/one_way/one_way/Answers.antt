use Rattle.std.proofs.Common.{◌∙◌, [], ap, sym}
use Rattle.std.proofs.lemmas.Bool.{true≢false}
use Rattle.si_carried.specs.Lint.{IsOneWay}
use Rattle.si_told.specs.All.{arc_place}
use Rattle.si_told.proofs.Alls.{all_added, first_none, first_more, first_all}
use Rattle.si_lint.proofs.OneWayLemmas.{IsThat, one_way_order, arc_within, one_way_here, one_way_pass, one_way_each}
use Rattle.si_lint.proofs.one_way.one_way.Goals as goal
use Rattle.si_lint.proofs.one_way.one_way.Goals.{then-is_lost+in_ok-push, else-is_lost}

pub is_lost-requires-clause-from : goal.is_lost-requires-clause-from
is_lost-requires-clause-from c = (arc_within c.args.graph.now c.arcs-arcs.result.now c.arcs-arcs.ensures.graph
    c.arcs-arcs.ensures.arcs c.loop-arc.arc-index c.arc-item.result c.loop-arc-test.true c.arc-item.is).0

pub is_lost-requires-clause-to : goal.is_lost-requires-clause-to
is_lost-requires-clause-to c = (arc_within c.args.graph.now c.arcs-arcs.result.now c.arcs-arcs.ensures.graph
    c.arcs-arcs.ensures.arcs c.loop-arc.arc-index c.arc-item.result c.loop-arc-test.true c.arc-item.is).2

pub loop-arc-init : goal.loop-arc-init
loop-arc-init c = rw c.new-found.ensures.items (first_none arc_place (IsOneWay c.args.graph.now) IsThat
    c.arcs-arcs.result.now (one_way_order c.args.graph.now c.arcs-arcs.result.now c.arcs-arcs.ensures.graph
    c.arcs-arcs.ensures.arcs) [])

pub loop-arc-preserved : goal.loop-arc-preserved
loop-arc-preserved c =
    let g = c.args.graph.now in
    let arcs = c.arcs-arcs.result.now in
    let is = c.arcs-arcs.ensures.graph in
    let same = c.arcs-arcs.ensures.arcs in
    let k = c.loop-arc.arc-index in
    let a = c.arc-item.result in
    let old = c.loop-arc.found.items in
    let more = first_more arc_place (IsOneWay g) IsThat arcs (one_way_order g arcs is same) k a [] old in
    elim c.if-is_lost.branch [
      | then-is_lost+in_ok-push w ↦ more _ c.loop-arc-test.true c.arc-item.is c.loop-arc.invariant
          (one_way_here g arcs is same k a old _ c.loop-arc-test.true c.arc-item.is
          (c.is_lost.ensures.0 w.if-is_lost.true) (ap (λ v. v.items) w.found-is ∙ w.in_ok-push.ensures.items))
      | else-is_lost w ↦ rw w.found-is (more old c.loop-arc-test.true c.arc-item.is c.loop-arc.invariant
          (one_way_pass g arcs is same a old (λ lost. true≢false (sym (c.is_lost.ensures.1 lost) ∙ w.if-is_lost.false))))
    ]

pub returns : goal.returns
returns c =
    let g = c.args.graph.now in
    let arcs = c.arcs-arcs.result.now in
    let is = c.arcs-arcs.ensures.graph in
    let same = c.arcs-arcs.ensures.arcs in
    all_added arc_place (IsOneWay g) c.loop-arc.found.items
    (first_all arc_place (IsOneWay g) IsThat arcs (one_way_order g arcs is same) c.loop-arc.arc-index []
    c.loop-arc.found.items c.loop-arc-test.false (one_way_each g arcs is same) c.loop-arc.invariant)
