use Rattle.std.proofs.Common.{arith}
use Rattle.si_graph.proofs.ValueLemmas.{start_more, start_told}
use Rattle.si_graph.proofs.values.start_code.Goals as goal

pub loop-arc-preserved : goal.loop-arc-preserved
loop-arc-preserved c =
    start_more c.args.graph.now c.args.changes.now c.arcs-arc-items.result.now c.loop-arc.arc-index c.loop-arc.start
    c.set-start.result c.arc-item.result
    c.arcs-arc-items.ensures.graph c.requires c.arcs-arc-items.ensures.arcs (omega arith) c.arc-item.is
    (rw (c.get.ensures, c.code_at.ensures) at c.set-start.ensures) c.loop-arc.invariant

pub returns : goal.returns
returns c = start_told c.args.graph.now c.arcs-arc-items.result.now c.loop-arc.arc-index c.loop-arc.start
    c.arcs-arc-items.ensures.graph c.arcs-arc-items.ensures.arcs (omega arith) c.loop-arc.invariant
