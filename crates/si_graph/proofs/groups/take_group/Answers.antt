use Rattle.std.proofs.Common.{◌≡◌, ℕ, ◌<◌, ◌∷◌, ◌++◌, [], length, sym, subst, arith, slice_index}
use Rattle.std.proofs.lemmas.List.{get_or_default, get_or_read}
use Rattle.si_base.specs.declared.graph.Edge.{Edge}
use Rattle.si_graph.specs.Loops.Arcs.{edge_at, no_edge}
use Rattle.si_graph.proofs.GroupLemmas.{AreGathered, gathered_none, gathered_more, gathered_all, group_in_order}
use Rattle.si_graph.proofs.groups.take_group.Goals as goal

pub loop-k-init : goal.loop-k-init
loop-k-init c =
    let heads = c.args.chain.now.heads.items in
    let s = c.args.s in
    let there : s < length heads = c.requires.state in
    rw (c.clear.ensures.items, c.head-k.ensures, get_or_default heads s c.args.chain.now.end 0 there)
    (gathered_none c.args.arcs.now s _ (c.requires.chained.linked.heads_are s there))

pub loop-k-preserved : goal.loop-k-preserved
loop-k-preserved c =
    let arcs = c.args.arcs.now in
    let k = c.loop-k.k in
    let group = c.loop-k.group.items in
    let within : k < length arcs = omega arith in
    let arc : c.index-arcs-k.result ≡ edge_at arcs k = get_or_read arcs k _ within c.index-arcs-k.is no_edge in
    let next : ℕ = slice_index c.args.chain.now.nexts.items k in
    let first = c.requires.chained.linked.nexts_are k (omega arith) within in
    let more = gathered_more arcs c.args.s k group c.loop-k.invariant next within first in
    rw (c.next-k.ensures, c.in_ok-push.ensures.items)
    (subst (λ (a : Edge). AreGathered arcs c.args.s next (group ++ a ∷ [])) (sym arc) more)

pub returns : goal.returns
returns c = group_in_order _ _ _ _ c.sort_unstable.ensures.permutation
    (gathered_all _ _ _ _ c.loop-k.invariant (omega arith))
