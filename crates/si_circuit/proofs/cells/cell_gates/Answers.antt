use Rattle.std.proofs.Common.{◌≡◌, ◌<◌, ◌∙◌, ap, length, map, List, ◌++◌, refl}
use Rattle.std.proofs.lemmas.Bool.{false≢true}
use Rattle.std.proofs.lemmas.List.{map_push}
use Rattle.si_base.specs.Codes.{CodedGraph}
use Rattle.si_base.specs.Graph.{StateGraph, IsNonInput}
use Rattle.si_base.specs.Netlist.{Gate}
use Rattle.si_checks.specs.Loops.Lent.{coded_of}
use Rattle.si_netlist.specs.Loops.Parts.{gate_seen}
use Rattle.si_circuit.specs.Cells.{cell_gate}
use Rattle.si_circuit.proofs.CellLemmas.{fit_more}
use Rattle.si_circuit.proofs.GateLemmas.{gates_skip, gates_more}
use Rattle.si_circuit.proofs.cells.cell_gates.Goals as goal

pub loop-i-preserved-then-not-is_driven : goal.loop-i-preserved-then-not-is_driven
loop-i-preserved-then-not-is_driven c =
    let k = coded_of c.args.graph in
    let graph_is : c.graph-known.result.now ≡ k.graph =
    c.graph-known.ensures.same ∙ ap (λ (d : CodedGraph). d.graph) (c.coded.ensures.same ∙ c.proper.ensures.same) in
    let signals : c.signals-i-end.result.now ≡ k.graph.signals =
    c.signals-i-end.ensures ∙ ap (λ (g : StateGraph). g.signals) graph_is in
    let within : c.loop-i.i < length k.graph.signals = rw signals at c.loop-i-test.true in
    let input = rw graph_is at c.if-not-is_driven.ensures.1 in
    let skip = gates_skip (cell_gate k c.args.library.now) k.graph.signals c.loop-i.i within input in (
      ap (λ (rest : List Gate). map gate_seen c.loop-i.gates.items ++ rest) skip ∙ c.loop-i.invariant.0,
      fit_more k c.args.library.now c.loop-i.i c.loop-i.invariant.1 (λ driven. absurd (false≢true (input driven))),
    )

pub loop-i-preserved : goal.loop-i-preserved
loop-i-preserved c =
    let k = coded_of c.args.graph in
    let graph_is : c.graph-known.result.now ≡ k.graph =
    c.graph-known.ensures.same ∙ ap (λ (d : CodedGraph). d.graph) (c.coded.ensures.same ∙ c.proper.ensures.same) in
    let signals : c.signals-i-end.result.now ≡ k.graph.signals =
    c.signals-i-end.ensures ∙ ap (λ (g : StateGraph). g.signals) graph_is in
    let within : c.loop-i.i < length k.graph.signals = rw signals at c.loop-i-test.true in
    let driven : IsNonInput k.graph.signals c.loop-i.i = (rw graph_is at c.if-not-is_driven.ensures.0) refl in
    let more = gates_more (cell_gate k c.args.library.now) k.graph.signals
    c.loop-i.i (map gate_seen c.loop-i.gates.items) within driven in (
      rw (c.in_ok-push.ensures.items, map_push, c.in_ok-gate.ensures.gate) (more ∙ c.loop-i.invariant.0),
      fit_more k c.args.library.now c.loop-i.i c.loop-i.invariant.1 (λ d. c.in_ok-gate.ensures.fit),
    )
