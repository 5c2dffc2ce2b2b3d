use Rattle.std.proofs.Common.{length}
use Rattle.si_graph.specs.Loops.Arcs.{IsInto}
use Rattle.si_graph.specs.Loops.Chains.{target}
use Rattle.si_graph.proofs.ChainLemmas.{head_is, place_of}
use Rattle.si_graph.proofs.arc_store.ArcStore.head_in.Goals as goal

pub returns : goal.returns
returns c =
    let edges = c.self.inside.edges.items in
    let indexed = c.self.invariant in
    let head = head_is target c.self.inside.states edges _ _ c.args.t _ indexed.into_linked indexed.into_end
    (λ k d within. (indexed.stored.within k d within).1) in
    rw (← c.self.view_is) (place_of (IsInto edges c.args.t) 0 (length edges) _ c.at.result (rw c.head.ensures head)
    (rw (← c.self.view_is) at c.at.ensures))
