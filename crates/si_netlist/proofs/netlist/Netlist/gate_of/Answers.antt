use Rattle.std.proofs.Common.{◌≡◌, ◌<◌, ◌-◌, ℕ, length, arith, ap, refl}
use Rattle.si_base.specs.Netlist.{Netlist, gate_place}
use Rattle.si_netlist.proofs.GateLemmas.{stands_behind, gate-read}
use Rattle.si_netlist.proofs.netlist.Netlist.gate_of.Goals as goal

pub overflow_sub-inputs : goal.overflow_sub-inputs
overflow_sub-inputs c =
    let stands = stands_behind c.args.self.now _ c.self.inside.gates.items c.args.z c.len.result c.len-2.result
    c.self.view_is c.self.invariant c.requires refl (omega (arith, c.self.inside.signals.ok))
    (omega (arith, c.self.inside.gates.ok)) in
    stands.fewer

pub overflow_sub-z-inside : goal.overflow_sub-z-inside
overflow_sub-z-inside c =
    let stands = stands_behind c.args.self.now _ c.self.inside.gates.items c.args.z c.len.result c.len-2.result
    c.self.view_is c.self.invariant c.requires refl (omega (arith, c.self.inside.signals.ok))
    (omega (arith, c.self.inside.gates.ok)) in
    omega (arith, stands.behind, c.z.view_is)

pub index-requires : goal.index-requires
index-requires c =
    let stands = stands_behind c.args.self.now _ c.self.inside.gates.items c.args.z c.len.result c.len-2.result
    c.self.view_is c.self.invariant c.requires refl (omega (arith, c.self.inside.signals.ok))
    (omega (arith, c.self.inside.gates.ok)) in
    omega (arith, stands.place, stands.there, c.self.inside.gates.ok, c.z.view_is)

pub returns-clause-gate : goal.returns-clause-gate
returns-clause-gate c =
    let stands = stands_behind c.args.self.now _ c.self.inside.gates.items c.args.z c.len.result c.len-2.result
    c.self.view_is c.self.invariant c.requires refl (omega (arith, c.self.inside.signals.ok))
    (omega (arith, c.self.inside.gates.ok)) in
    let gates = ap (λ (n : Netlist). n.gates) c.self.view_is in
    let place : ℕ = c.z.inside.0 - (c.len.result - c.len-2.result) in
    let at : place ≡ gate_place c.args.self.now.signals c.args.z = omega (arith, stands.place, c.z.view_is) in
    let within : place < length c.self.inside.gates.items =
    omega (arith, at, stands.there, c.self.inside.gates.ok) in
    gate-read c.args.self.now c.self.inside.gates.items place c.args.z c.index.result.now gates at within
    c.index.ensures

pub returns-clause-within : goal.returns-clause-within
returns-clause-within c =
    let stands = stands_behind c.args.self.now _ c.self.inside.gates.items c.args.z c.len.result c.len-2.result
    c.self.view_is c.self.invariant c.requires refl (omega (arith, c.self.inside.signals.ok))
    (omega (arith, c.self.inside.gates.ok)) in
    stands.few
