use Rattle.std.proofs.Common.{◌∙◌, Result, Ok, Err, IfOk}
use Rattle.std.proofs.lemmas.Result.{IfOk-weaker}
use Rattle.si_base.specs.Behaviour.{Implements}
use Rattle.si_base.specs.Netlist.{Netlist}
use Rattle.si_checks.specs.Loops.Lent.{coded_of}
use Rattle.si_circuit.specs.Cells.{cell_gate}
use Rattle.si_circuit.specs.Circuits.{IsCircuit}
use Rattle.si_circuit.specs.declared.cells.CellsFault.{CellsFault}
use Rattle.si_circuit.proofs.CircuitLemmas.{circuit_with, inserted_made}
use Rattle.si_circuit.proofs.circuit.cell_netlist_for.Goals as goal

pub netlist_of_cells-requires-clause-inserted : goal.netlist_of_cells-requires-clause-inserted
netlist_of_cells-requires-clause-inserted c =
    inserted_made c.args.states.now c.args.resolved.now c.lineage-lineage.result.now (coded_of c.distinct.result)
    c.in_ok-inserts.inserts.items c.lineage-lineage.ensures.same c.trace-trace.ensures.made c.requires.states
    c.distinct.ensures c.in_ok-inserts.ensures

if_both : {P Q R : Netlist → Type 0} (r : Result Netlist CellsFault) → IfOk r P → IfOk r Q
    → ((n : Netlist) → P n → Q n → R n) → IfOk r R
if_both (Ok n) p q f = f n p q
if_both (Err fault) p q f = p

pub returns-clause-circuit : goal.returns-clause-circuit
returns-clause-circuit c =
    let k = coded_of c.distinct.result in
    if_both c.netlist_of_cells.result c.netlist_of_cells.ensures.chosen c.netlist_of_cells.ensures.gives
    (λ n is gives. circuit_with (λ g. cell_gate g c.args.library.now) c.args.model.now c.in_ok-model.model
    c.args.states.now
    c.args.resolved.now c.lineage-lineage.result.now k c.in_ok-inserts.inserts.items n c.lineage-lineage.ensures.same
    c.trace-trace.ensures.made c.distinct.ensures (c.in_ok-model.ensures ∙ c.bytes.ensures) c.in_ok-inserts.ensures is
    gives)

pub returns-clause-implements : goal.returns-clause-implements
returns-clause-implements c =
    IfOk-weaker c.netlist_of_cells.result (IsCircuit c.args.resolved.now)
    (λ n. Implements n c.args.resolved.now.given.graph)
    (λ n is. is.implements) (returns-clause-circuit c)
