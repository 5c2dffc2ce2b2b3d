use Rattle.si_walks.proofs.WalkSteps.{way_starts, way_more, way_smaller, way_ends}
use Rattle.si_walks.proofs.walk.walk_by.Goals as goal

pub loop-arc-init : goal.loop-arc-init
loop-arc-init c = way_starts c.args.coded.now.graph c.args.arcs.now c.args.target c.args.distances.now
    c.graph-graph.ensures.coded.graph_is c.requires.distances c.args.from _ c.new-walk.ensures.items c.requires.from
    c.requires.leads

pub loop-arc-preserved : goal.loop-arc-preserved
loop-arc-preserved c =
    let first = rw c.graph-graph.ensures.same at c.in-Some.ensures in
    way_more c.args.coded.now.graph c.args.arcs.now c.args.target c.args.distances.now
    c.graph-graph.ensures.coded.graph_is c.requires.distances c.graph-graph.ensures.coded.deterministic c.args.from
    c.loop-arc.walk.items c.loop-arc.at c.in-Some.arc _ c.loop-arc.invariant first c.in_ok-push.ensures.items

pub loop-arc-smaller : goal.loop-arc-smaller
loop-arc-smaller c =
    let first = rw c.graph-graph.ensures.same at c.in-Some.ensures in
    way_smaller c.args.coded.now.graph c.args.arcs.now c.args.target c.args.distances.now
    c.graph-graph.ensures.coded.graph_is c.requires.distances c.loop-arc.at c.in-Some.arc first

pub returns : goal.returns
returns c =
    let none = rw c.graph-graph.ensures.same at c.in_default.ensures in
    way_ends c.args.coded.now.graph c.args.arcs.now c.args.target c.args.distances.now
    c.graph-graph.ensures.coded.graph_is c.requires.distances c.args.from c.loop-arc.walk.items c.loop-arc.at
    c.loop-arc.invariant none

pub first_nearer-requires-clause-deterministic : goal.first_nearer-requires-clause-deterministic
first_nearer-requires-clause-deterministic c =
    rw c.graph-graph.ensures.same c.graph-graph.ensures.coded.deterministic
