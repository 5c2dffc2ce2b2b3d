use Rattle.std.proofs.Common.{◌<◌, ◌∙◌, ℕ, List, ◌++◌, ap, length, map, refl, vec_items}
use Rattle.std.proofs.lemmas.List.{map_push}
use Rattle.si_base.specs.declared.graph.Signal.{Signal}
use Rattle.si_base.specs.Graph.{IsNonInput}
use Rattle.si_base.specs.Netlist.{Gate}
use Rattle.si_circuit.proofs.GateLemmas.{gates_more, gates_skip}
use Rattle.si_joins.specs.Gates.{joined_gate}
use Rattle.si_netlist.specs.Loops.Parts.{gate_seen}
use Rattle.si_joins.proofs.netlist.joined_gates.Goals as goal

pub loop-z-preserved-then-not-is_driven : goal.loop-z-preserved-then-not-is_driven
loop-z-preserved-then-not-is_driven c =
    let signals = c.args.graph.now.signals in
    let tos = map vec_items c.args.tos.now in
    let many = ap (length {A = Signal}) c.signals-count.ensures in
    let within : c.loop-z.z < length signals = rw many at c.loop-z-test.true in
    let skip = gates_skip (joined_gate (length signals) c.args.parts.now tos) signals c.loop-z.z within
    c.if-not-is_driven.ensures.1 in
    ap (λ (rest : List Gate). map gate_seen c.loop-z.gates.items ++ rest) skip ∙ c.loop-z.invariant

pub loop-z-preserved : goal.loop-z-preserved
loop-z-preserved c =
    let signals = c.args.graph.now.signals in
    let parts = c.args.parts.now in
    let tos = map vec_items c.args.tos.now in
    let z = c.loop-z.z in
    let many = ap (length {A = Signal}) c.signals-count.ensures in
    let within : z < length signals = rw many at c.loop-z-test.true in
    let driven : IsNonInput signals z = c.if-not-is_driven.ensures.0 refl in
    let made = c.in_ok-joined_gate.ensures ∙ ap (λ (n : ℕ). joined_gate n parts tos z) many in
    let more = gates_more (joined_gate (length signals) parts tos) signals z (map gate_seen c.loop-z.gates.items) within
    driven in
    rw (c.in_ok-push.ensures.items, map_push, made) (more ∙ c.loop-z.invariant)
