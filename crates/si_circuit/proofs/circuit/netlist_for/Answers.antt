use Rattle.std.proofs.Common.{◌≡◌, ◌∙◌}
use Rattle.std.proofs.lemmas.Result.{IfOk-weaker}
use Rattle.si_base.specs.Behaviour.{Implements}
use Rattle.si_checks.specs.Loops.Lent.{coded_of}
use Rattle.si_circuit.specs.Circuits.{IsCircuit}
use Rattle.si_circuit.specs.Gates.{gate_of, netlist_of}
use Rattle.si_circuit.proofs.CircuitLemmas.{circuit_made, inserted_made}
use Rattle.si_circuit.proofs.circuit.netlist_for.Goals as goal

pub netlist_with-requires-clause-inserted : goal.netlist_with-requires-clause-inserted
netlist_with-requires-clause-inserted c =
    inserted_made c.args.states.now c.args.resolved.now c.lineage-lineage.result.now (coded_of c.distinct.result)
    c.in_ok-inserts.inserts.items c.lineage-lineage.ensures.same c.trace-trace.ensures.made c.requires.states
    c.distinct.ensures c.in_ok-inserts.ensures

pub returns-clause-circuit : goal.returns-clause-circuit
returns-clause-circuit c =
    let k = coded_of c.distinct.result in
    IfOk-weaker c.netlist_with.result
    (λ n. n ≡ netlist_of (gate_of c.args.style k) c.in_ok-model.model c.in_ok-inserts.inserts.items k)
    (IsCircuit c.args.resolved.now)
    (λ n. circuit_made c.args.style c.args.model.now c.in_ok-model.model c.args.states.now c.args.resolved.now
    c.lineage-lineage.result.now k c.in_ok-inserts.inserts.items n c.lineage-lineage.ensures.same
    c.trace-trace.ensures.made c.lineage-lineage.ensures.resolved c.distinct.ensures
    (c.in_ok-model.ensures ∙ c.bytes.ensures) c.in_ok-inserts.ensures)
    c.netlist_with.ensures.chosen

pub returns-clause-implements : goal.returns-clause-implements
returns-clause-implements c =
    IfOk-weaker c.netlist_with.result (IsCircuit c.args.resolved.now)
    (λ n. Implements n c.args.resolved.now.given.graph)
    (λ n is. is.implements) (returns-clause-circuit c)
