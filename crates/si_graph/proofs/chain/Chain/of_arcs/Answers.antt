use Rattle.std.proofs.Common.{◌≡◌, ◌∙◌, ◌-◌, ◌+◌, ◌<◌, ap, length, arith}
use Rattle.std.proofs.lemmas.List.{get_or_read}
use Rattle.si_graph.specs.Loops.Arcs.{edge_at, no_edge}
use Rattle.si_graph.specs.Loops.Ends.{state_at}
use Rattle.si_graph.proofs.ChainLemmas.{linked_more}
use Rattle.si_graph.proofs.chain.Chain.of_arcs.Goals as goal

pub loop-k-preserved : goal.loop-k-preserved
loop-k-preserved c =
    let arcs = c.args.arcs.now in
    let states = c.args.states in
    let k = c.loop-k.k - 1 in
    let old = c.loop-k.invariant in
    let one_less : c.loop-k.k ≡ k + 1 = omega arith in
    let below : k < length arcs = omega (arith, old.up_to) in
    let within = c.requires.within k no_edge below in
    let arc : c.index-arcs-k.result ≡ edge_at arcs k = get_or_read arcs k _ below c.index-arcs-k.is no_edge in
    let at : c.state_at.result ≡ state_at c.args.end (edge_at arcs k) =
    c.state_at.ensures ∙ ap (state_at c.args.end) arc in
    record {
      up_to = omega (arith, old.up_to);
      linked = rw (c.put_first.ensures.heads, c.put_first.ensures.nexts)
          (linked_more (state_at c.args.end) states arcs k _ _ _ (rw one_less at old.linked) below at (rw at within));
      last = rw c.put_first.ensures.end old.last;
    }
