use Rattle.std.proofs.Common.{◌≡◌, ◌<◌, ◌∙◌, ap, length, map, List, ◌++◌, refl}
use Rattle.std.proofs.lemmas.List.{map_push}
use Rattle.si_base.specs.Codes.{CodedGraph}
use Rattle.si_base.specs.Graph.{StateGraph, IsNonInput}
use Rattle.si_base.specs.Netlist.{Gate}
use Rattle.si_checks.specs.Loops.Lent.{coded_of}
use Rattle.si_netlist.specs.Loops.Parts.{gate_seen}
use Rattle.si_circuit.specs.Gates.{gate_of}
use Rattle.si_circuit.proofs.GateLemmas.{gates_skip, gates_more}
use Rattle.si_circuit.proofs.gates.gates_of.Goals as goal

pub loop-i-preserved-then-not-is_driven : goal.loop-i-preserved-then-not-is_driven
loop-i-preserved-then-not-is_driven c =
    let graph_is : c.graph-known.result.now ≡ (coded_of c.args.graph).graph =
    c.graph-known.ensures.same ∙ ap (λ (d : CodedGraph). d.graph) (c.coded.ensures.same ∙ c.proper.ensures.same) in
    let signals : c.signals-i-end.result.now ≡ (coded_of c.args.graph).graph.signals =
    c.signals-i-end.ensures ∙ ap (λ (g : StateGraph). g.signals) graph_is in
    let within : c.loop-i.i < length (coded_of c.args.graph).graph.signals = rw signals at c.loop-i-test.true in
    let skip = gates_skip (gate_of c.args.style (coded_of c.args.graph)) (coded_of c.args.graph).graph.signals
    c.loop-i.i within (rw graph_is at c.if-not-is_driven.ensures.1) in
    ap (λ (rest : List Gate). map gate_seen c.loop-i.gates.items ++ rest) skip ∙ c.loop-i.invariant

pub loop-i-preserved : goal.loop-i-preserved
loop-i-preserved c =
    let graph_is : c.graph-known.result.now ≡ (coded_of c.args.graph).graph =
    c.graph-known.ensures.same ∙ ap (λ (d : CodedGraph). d.graph) (c.coded.ensures.same ∙ c.proper.ensures.same) in
    let signals : c.signals-i-end.result.now ≡ (coded_of c.args.graph).graph.signals =
    c.signals-i-end.ensures ∙ ap (λ (g : StateGraph). g.signals) graph_is in
    let within : c.loop-i.i < length (coded_of c.args.graph).graph.signals = rw signals at c.loop-i-test.true in
    let driven : IsNonInput (coded_of c.args.graph).graph.signals c.loop-i.i =
    (rw graph_is at c.if-not-is_driven.ensures.0) refl in
    let more = gates_more (gate_of c.args.style (coded_of c.args.graph)) (coded_of c.args.graph).graph.signals
    c.loop-i.i (map gate_seen c.loop-i.gates.items) within driven in
    rw (c.in_ok-push.ensures.items, map_push, c.in_ok-gate_of.ensures) (more ∙ c.loop-i.invariant)
