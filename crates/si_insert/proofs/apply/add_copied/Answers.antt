use Rattle.std.proofs.Common.{◌∙◌, ap, subst, arith}
use Rattle.si_graph.specs.Loops.Arcs.{AreOut}
use Rattle.si_insert.specs.GraphOfCopies.{place}
use Rattle.si_insert.specs.Insertion.{Copy}
use Rattle.si_insert.specs.Partition.{class_of}
use Rattle.si_insert.proofs.CopyArcs.{out_from, out_within, all_copied}
use Rattle.si_insert.proofs.apply.add_copied.Goals as goal

pub edge_has_copy-requires-clause-from : goal.edge_has_copy-requires-clause-from
edge_has_copy-requires-clause-from c =
    ap (class_of c.args.classes.now) (ap (λ x. x.state) c.x-inside.view_is
    ∙ out_from c.args.graph.now c.x.inside.state c.arcs_out-arcs.result.now c.loop-a.a-index c.a-item.result
    c.arcs_out-arcs.ensures c.loop-a-test.true c.a-item.is)

pub edge_has_copy-requires-clause-to : goal.edge_has_copy-requires-clause-to
edge_has_copy-requires-clause-to c =
    let within =
    out_within c.args.graph.now c.x.inside.state c.arcs_out-arcs.result.now c.loop-a.a-index c.a-item.result
    c.arcs_out-arcs.ensures c.loop-a-test.true c.a-item.is in
    omega (arith, within.1, c.requires.count)

pub copied_edge-requires-clause-from : goal.copied_edge-requires-clause-from
copied_edge-requires-clause-from c =
    c.place-from.ensures
    ∙ ap (λ s. place c.args.classes.now s c.x.inside.value) (out_from c.args.graph.now c.x.inside.state
    c.arcs_out-arcs.result.now c.loop-a.a-index c.a-item.result c.arcs_out-arcs.ensures c.loop-a-test.true c.a-item.is)

pub copied_edge-requires-clause-to : goal.copied_edge-requires-clause-to
copied_edge-requires-clause-to c =
    let within =
    out_within c.args.graph.now c.x.inside.state c.arcs_out-arcs.result.now c.loop-a.a-index c.a-item.result
    c.arcs_out-arcs.ensures c.loop-a-test.true c.a-item.is in
    omega (arith, within.1, c.requires.count)

pub returns : goal.returns
returns c =
    let P : Copy → Type 0 = λ x. AreOut c.args.graph.now x.state c.arcs_out-arcs.result.now in
    let out : P c.args.x = subst P c.x.view_is c.arcs_out-arcs.ensures in
    all_copied c.args.graph.now c.args.classes.now c.args.x c.arcs_out-arcs.result.now c.loop-a.a-index
    c.args.edges.now.items c.loop-a.edges.items out (omega (arith, c.loop-a-test.false))
    c.loop-a.invariant
