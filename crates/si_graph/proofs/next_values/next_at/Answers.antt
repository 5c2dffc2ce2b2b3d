use Rattle.std.proofs.Common.{◌≡◌, ◌<◌, ℕ, arith, length, slice_index, subst}
use Rattle.si_base.specs.Codes.{CodedGraph}
use Rattle.si_graph.proofs.NextValueLemmas.{AreSet, out_from_old, out_inside, set_more, next_is}
use Rattle.si_graph.proofs.next_values.next_at.Goals as goal

pub set-next-requires : goal.set-next-requires
set-next-requires c =
    let coded : CodedGraph = record { graph = c.args.graph.now; codes = c.args.codes.now } in
    let inside =
    out_inside coded c.requires.coded _ _ c.arcs_out-arc-items.ensures c.loop-arc.arc-index c.arc-item.result
    (omega arith) c.loop-arc-test.true in
    let sig : c.arc-item.result.event.sig < length c.args.graph.now.signals = rw (← c.arc-item.is) at inside in
    omega (arith, sig, c.requires.coded.graph_is.few_signals)

pub loop-arc-preserved : goal.loop-arc-preserved
loop-arc-preserved c =
    let coded : CodedGraph = record { graph = c.args.graph.now; codes = c.args.codes.now } in
    set_more _ c.loop-arc.arc-index _ _ _ _ (out_from_old coded c.requires.coded _ _ c.arcs_out-arc-items.ensures)
    c.loop-arc-test.true c.arc-item.is c.set-next.ensures c.loop-arc.invariant

pub returns : goal.returns
returns c =
    let coded : CodedGraph = record { graph = c.args.graph.now; codes = c.args.codes.now } in
    let arcs = c.arcs_out-arc-items.result.now in
    let all : c.loop-arc.arc-index ≡ length arcs = omega arith in
    let Set : ℕ → Type 0 = λ n. AreSet arcs n (slice_index c.args.codes.now c.args.s) c.loop-arc.next in
    next_is coded c.requires.coded c.args.s _ c.arcs_out-arc-items.ensures c.loop-arc.next
    (subst Set all c.loop-arc.invariant) c.requires.state
