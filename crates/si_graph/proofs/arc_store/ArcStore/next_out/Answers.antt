use Rattle.std.proofs.Common.{◌≡◌, ◌<◌, length}
use Rattle.std.proofs.lemmas.List.{get_or_read}
use Rattle.si_graph.specs.Loops.Arcs.{edge_at, no_edge}
use Rattle.si_graph.proofs.ArcStoreLemmas.{next_behind, none_behind}
use Rattle.si_graph.proofs.arc_store.ArcStore.next_out.Goals as goal

pub returns-then-next-high : goal.returns-then-next-high
returns-then-next-high c =
    let edges = c.self.inside.edges.items in
    let k = c.k.inside.0 in
    let within : k < length edges = rw (← c.self.view_is, ← c.k.view_is) at c.requires in
    let edge : c.index.result.now ≡ edge_at edges k = get_or_read edges k _ within c.index.ensures no_edge in
    let high = rw (← c.self.view_is, c.source.view_is, edge) at c.start-high.ensures in
    rw (← c.self.view_is, ← c.k.view_is)
    (next_behind edges k _ high c.self.invariant.stored.ordered c.if-next-high.true)

pub returns-else-next-high : goal.returns-else-next-high
returns-else-next-high c =
    let edges = c.self.inside.edges.items in
    let k = c.k.inside.0 in
    let within : k < length edges = rw (← c.self.view_is, ← c.k.view_is) at c.requires in
    let edge : c.index.result.now ≡ edge_at edges k = get_or_read edges k _ within c.index.ensures no_edge in
    let high = rw (← c.self.view_is, c.source.view_is, edge) at c.start-high.ensures in
    rw (← c.self.view_is, ← c.k.view_is) (none_behind edges k _ high c.if-next-high.false)
