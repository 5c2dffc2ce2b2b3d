use Rattle.std.proofs.Common.{◌∙◌, sym, ap, length, arith}
use Rattle.si_graph.proofs.ArcSplits.{deterministic, found_first}
use Rattle.si_graph.proofs.determinism.first_split.Goals as goal

pub returns-then-eq-2 : goal.returns-then-eq-2
returns-then-eq-2 c =
    found_first c.args.graph.now c.arcs-arcs.ensures.graph.ordered c.loop-k.k c.loop-k.invariant
    c.arcs-arcs.result.now _ _
    c.arcs-arcs.ensures.arcs (omega arith) (omega arith) c.index-arcs-k.is c.index-arcs-k-in-loop-k.is
    (sym c.eq.ensures ∙ c.if-eq.true) (sym c.eq-then-eq.ensures ∙ c.if-eq-2.true)

pub returns : goal.returns
returns c = deterministic c.args.graph.now c.arcs-arcs.ensures.graph.ordered c.loop-k.k c.loop-k.invariant
    (omega (arith, ap length c.arcs-arcs.ensures.arcs))
