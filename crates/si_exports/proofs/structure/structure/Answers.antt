use Rattle.std.proofs.Common.{ℕ, List, Ok, None}
use Rattle.std.proofs.lemmas.Result.{IfOk-weaker}
use Rattle.si_refusals.specs.Ending.{MayStop}
use Rattle.si_refusals.specs.Stages.{Passes}
use Rattle.si_exports.specs.Structure.{structure, structured}
use Rattle.si_readings.proofs.ReadingRefusals.{err_map, stops}
use Rattle.si_readings.proofs.StageLemmas.{stop_first, stop_next}
use Rattle.si_exports.proofs.structure.structure.Goals as goal

pub returns-in_err-circuit-clause-err : goal.returns-in_err-circuit-clause-err
returns-in_err-circuit-clause-err c =
    let a = c.args in
    stops (structure a.format a.complements None a.netlist_file.now a.netlist.now a.library_file.now a.library.now)
    c.from_residual.result _ c.from_residual.ensures.1 (stop_first _ _ _ c.in_err-circuit.ensures.err)

pub returns-in_err-cells-clause-err : goal.returns-in_err-cells-clause-err
returns-in_err-cells-clause-err c =
    let a = c.args in
    stops (structure a.format a.complements None a.netlist_file.now a.netlist.now a.library_file.now a.library.now)
    c.from_residual-in_err-cells.result _ c.from_residual-in_err-cells.ensures.1
    (stop_next _ _ c.in_ok-circuit.circuit _ c.in_ok-circuit.ensures.ok
    (stop_first _ _ _ c.in_err-cells.ensures.err))

pub returns-clause-ok : goal.returns-clause-ok
returns-clause-ok c =
    let a = c.args in
    IfOk-weaker c.structured.result
    (λ (text : List ℕ). structured a.complements c.in_ok-cells.cells None c.in_ok-circuit.circuit (Ok text))
    (λ (text : List ℕ). structure a.format a.complements None a.netlist_file.now a.netlist.now a.library_file.now
    a.library.now (Ok text))
    (λ text is. Passes c.in_ok-circuit.circuit c.in_ok-circuit.ensures.ok
    (Passes c.in_ok-cells.cells c.in_ok-cells.ensures.ok (Passes None tt is)))
    c.structured.ensures.ok

pub returns-clause-err : goal.returns-clause-err
returns-clause-err c =
    let a = c.args in
    err_map c.structured.result (MayStop (structured a.complements c.in_ok-cells.cells None c.in_ok-circuit.circuit))
    (MayStop (structure a.format a.complements None a.netlist_file.now a.netlist.now a.library_file.now a.library.now))
    (λ e may. stop_next _ _ c.in_ok-circuit.circuit e c.in_ok-circuit.ensures.ok
    (stop_next _ _ c.in_ok-cells.cells e c.in_ok-cells.ensures.ok
    (stop_next _ _ None e tt may)))
    c.structured.ensures.err
