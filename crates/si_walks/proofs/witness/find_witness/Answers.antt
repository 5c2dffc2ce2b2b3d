use Rattle.si_walks.specs.Joined.{Source}
use Rattle.si_walks.proofs.SourceLemmas.{no_source, first_source, leads_to_first, leads_to_second, source_within}
use Rattle.si_walks.proofs.witness.find_witness.Goals as goal

pub returns-in_default : goal.returns-in_default
returns-in_default c =
    let to_p = rw c.graph-graph.ensures.same at c.in_ok-to_p.ensures in
    let to_q = rw c.graph-graph.ensures.same at c.in_ok-to_q.ensures in
    let none = rw (c.as_slice.ensures.value, c.as_slice-2.ensures.value) at c.in_default.ensures in
    no_source c.args.coded.now c.args.p c.args.q c.in_ok-to_p.to_p.items c.in_ok-to_q.to_q.items
    c.graph-graph.ensures.coded.graph_is c.requires.p c.requires.q to_p to_q none

pub returns : goal.returns
returns c =
    let to_p = rw c.graph-graph.ensures.same at c.in_ok-to_p.ensures in
    let to_q = rw c.graph-graph.ensures.same at c.in_ok-to_q.ensures in
    let near = rw (c.as_slice.ensures.value, c.as_slice-2.ensures.value) at c.in-Some.ensures in
    let found : Source =
    record { state = c.in-Some.source; first = c.in_ok-first.first.items; second = c.in_ok-second.second.items } in
    first_source c.args.coded.now c.args.p c.args.q c.in_ok-to_p.to_p.items c.in_ok-to_q.to_q.items
    c.graph-graph.ensures.coded.graph_is c.requires.p c.requires.q to_p to_q found near c.in_ok-first.ensures
    c.in_ok-second.ensures

pub walk_by-requires-clause-from : goal.walk_by-requires-clause-from
walk_by-requires-clause-from c =
    let to_p = rw c.graph-graph.ensures.same at c.in_ok-to_p.ensures in
    let to_q = rw c.graph-graph.ensures.same at c.in_ok-to_q.ensures in
    let near = rw (c.as_slice.ensures.value, c.as_slice-2.ensures.value) at c.in-Some.ensures in
    source_within c.args.coded.now c.args.p c.args.q c.in_ok-to_p.to_p.items c.in_ok-to_q.to_q.items
    c.graph-graph.ensures.coded.graph_is c.requires.p c.requires.q to_p to_q c.in-Some.source near

pub walk_by-requires-clause-leads : goal.walk_by-requires-clause-leads
walk_by-requires-clause-leads c =
    let to_p = rw c.graph-graph.ensures.same at c.in_ok-to_p.ensures in
    let to_q = rw c.graph-graph.ensures.same at c.in_ok-to_q.ensures in
    let near = rw (c.as_slice.ensures.value, c.as_slice-2.ensures.value) at c.in-Some.ensures in
    leads_to_first c.args.coded.now c.args.p c.args.q c.in_ok-to_p.to_p.items c.in_ok-to_q.to_q.items
    c.graph-graph.ensures.coded.graph_is c.requires.p c.requires.q to_p to_q c.in-Some.source near

pub walk_by-requires-2-clause-leads : goal.walk_by-requires-2-clause-leads
walk_by-requires-2-clause-leads c =
    let to_p = rw c.graph-graph.ensures.same at c.in_ok-to_p.ensures in
    let to_q = rw c.graph-graph.ensures.same at c.in_ok-to_q.ensures in
    let near = rw (c.as_slice.ensures.value, c.as_slice-2.ensures.value) at c.in-Some.ensures in
    leads_to_second c.args.coded.now c.args.p c.args.q c.in_ok-to_p.to_p.items c.in_ok-to_q.to_q.items
    c.graph-graph.ensures.coded.graph_is c.requires.p c.requires.q to_p to_q c.in-Some.source near
