use Rattle.std.proofs.Common.{◌≡◌, ◌<◌, ◌∙◌, ℕ, List, [], Option, Some, None, length, map, vec_items, Global}
use Rattle.std.proofs.Common.{sym, ap, ap₂, subst, arith}
use Rattle.std.proofs.lemmas.List.{length-map}
use Rattle.std.proofs.lemmas.Option.{get_or_from_slice_get, slice_get_within}
use Rattle.std.proofs.lemmas.Result.{IfOk-weaker}
use Rattle.si_base.specs.declared.graph.Signal.{Signal}
use Rattle.si_base.specs.Graph.{IsNonInput}
use Rattle.si_base.specs.Netlist.{Gate, SumGate, gate_place}
use Rattle.si_joins.specs.Gates.{driven_at, joined_gate, own_gate, renamed_gate}
use Rattle.si_joins.proofs.PlaceLemmas.{driven_is, gate_found, placed_at, placed_many}
use Rattle.si_netlist.specs.Loops.Parts.{gate_seen}
use Rattle.si_netlist.specs.declared.gate.Gate.{Gate as GateMade}
use Rattle.si_systems.proofs.ListSteps.{mapped_at}
use Rattle.si_joins.proofs.gates.joined_gate.Goals as goal

-- the first driven signal is one of the part, and isn't an input
found_driven : (k : ℕ) (signals : List Signal) (to : List ℕ) (o : Option ℕ) (z : ℕ) → o ≡ driven_at k 0 signals to
    → o ≡ Some z → IsNonInput signals z
found_driven k signals to o z is found =
    let driven = driven_is k 0 signals to z (sym is ∙ found) in
    let same : driven.0 ≡ z = (let e = driven.1 in omega (arith, e)) in
    subst (λ (y : ℕ). IsNonInput signals y) same driven.2

pub bounds-tos-i : goal.bounds-tos-i
bounds-tos-i c =
    let many = placed_many c.args.parts.now (map vec_items c.args.tos.now) c.requires.placed in
    omega (arith, many, length-map c.args.tos.now (vec_items {X = ℕ} {Z = Global}), c.loop-i-test.true)

pub driven_at-requires : goal.driven_at-requires
driven_at-requires c =
    let parts = c.args.parts.now in
    let tos = c.args.tos.now in
    let n = c.index-parts-i.result in
    let v = c.index-tos-i.result in
    let many = placed_many parts (map vec_items tos) c.requires.placed in
    let inside : c.loop-i.i < length tos =
    omega (arith, many, length-map tos (vec_items {X = ℕ} {Z = Global}), c.loop-i-test.true) in
    let at = mapped_at vec_items tos c.loop-i.i v inside c.index-tos-i.is in
    let size = placed_at parts (map vec_items tos) c.loop-i.i n v.items c.requires.placed c.loop-i-test.true
    c.index-parts-i.is at in
    ap (length {A = ℕ}) c.deref.ensures.value ∙ size ∙ sym (ap (length {A = Signal}) c.signals.ensures.signals)

pub overflow_cast-z : goal.overflow_cast-z
overflow_cast-z c =
    let driven = found_driven c.args.k c.signals.result.now c.deref.result.now c.driven_at.result c.in-Some.z
    c.driven_at.ensures c.in-Some.is in
    let within = slice_get_within c.signals.result.now c.in-Some.z driven.0 driven.1 in
    let same = ap (length {A = Signal}) c.signals.ensures.signals in
    let few = c.signals.ensures.netlist.few in
    omega (arith, within, same, few)

pub gate_of-requires : goal.gate_of-requires
gate_of-requires c =
    subst (λ (xs : List Signal). IsNonInput xs c.in-Some.z) c.signals.ensures.signals
    (found_driven c.args.k c.signals.result.now c.deref.result.now c.driven_at.result c.in-Some.z c.driven_at.ensures
    c.in-Some.is)

-- what `driven_at` says, of the part and of its places
told : (k : ℕ) (seen signals : List Signal) (slice to : List ℕ) (o : Option ℕ) → seen ≡ signals → slice ≡ to
    → o ≡ driven_at k 0 seen slice → o ≡ driven_at k 0 signals to
told k seen signals slice to o same is found = found ∙ ap₂ (driven_at k 0) same is

pub returns-in-Some : goal.returns-in-Some
returns-in-Some c =
    let parts = c.args.parts.now in
    let tos = c.args.tos.now in
    let n = c.args.n in
    let m = c.index-parts-i.result in
    let v = c.index-tos-i.result in
    let z = c.in-Some.z in
    let all = joined_gate n parts (map vec_items tos) c.args.k in
    let many = placed_many parts (map vec_items tos) c.requires.placed in
    let size = length-map tos (vec_items {X = ℕ} {Z = Global}) in
    let inside : c.loop-i.i < length tos = omega (arith, many, size, c.loop-i-test.true) in
    let at = mapped_at vec_items tos c.loop-i.i v inside c.index-tos-i.is in
    let found : Some z ≡ driven_at c.args.k 0 m.signals v.items =
    sym c.in-Some.is ∙ told c.args.k c.signals.result.now m.signals c.deref.result.now v.items c.driven_at.result
    c.signals.ensures.signals c.deref.ensures.value c.driven_at.ensures in
    let whole = gate_found n c.args.k c.loop-i.i parts (map vec_items tos) all c.loop-i.invariant m v.items
    c.loop-i-test.true (omega (arith, inside, size)) c.index-parts-i.is at (Some z) found in
    let own : own_gate m z ≡ gate_seen c.gate_of.result.now =
    get_or_from_slice_get m.gates (gate_place m.signals z) (gate_seen c.gate_of.result.now) (SumGate [])
    c.gate_of.ensures.gate in
    IfOk-weaker c.renamed_gate.result
    (λ (g : GateMade). gate_seen g ≡ renamed_gate c.deref-in-Some.result.now n (gate_seen c.gate_of.result.now))
    (λ (g : GateMade). gate_seen g ≡ all)
    (λ g is. is ∙ ap₂ (λ (to : List ℕ) (h : Gate). renamed_gate to n h) c.deref-in-Some.ensures.value (sym own) ∙ whole)
    c.renamed_gate.ensures

pub loop-i-preserved : goal.loop-i-preserved
loop-i-preserved c =
    let parts = c.args.parts.now in
    let tos = c.args.tos.now in
    let n = c.args.n in
    let m = c.index-parts-i.result in
    let v = c.index-tos-i.result in
    let all = joined_gate n parts (map vec_items tos) c.args.k in
    let many = placed_many parts (map vec_items tos) c.requires.placed in
    let size = length-map tos (vec_items {X = ℕ} {Z = Global}) in
    let inside : c.loop-i.i < length tos = omega (arith, many, size, c.loop-i-test.true) in
    let at = mapped_at vec_items tos c.loop-i.i v inside c.index-tos-i.is in
    let found : None ≡ driven_at c.args.k 0 m.signals v.items =
    sym c.in_default.is ∙ told c.args.k c.signals.result.now m.signals c.deref.result.now v.items c.driven_at.result
    c.signals.ensures.signals c.deref.ensures.value c.driven_at.ensures in
    gate_found n c.args.k c.loop-i.i parts (map vec_items tos) all c.loop-i.invariant m v.items c.loop-i-test.true
    (omega (arith, inside, size)) c.index-parts-i.is at None found
