use Rattle.std.proofs.Common.{ℕ, List, Ok}
use Rattle.std.proofs.lemmas.Result.{IfOk-weaker}
use Rattle.si_refusals.specs.Ending.{MayStop}
use Rattle.si_refusals.specs.Stages.{Passes}
use Rattle.si_readings.specs.Readings.{audit_readings_now}
use Rattle.si_readings.proofs.ReadingRefusals.{err_map, stops}
use Rattle.si_readings.proofs.StageLemmas.{stop_first, stop_next}
use Rattle.si_stages.specs.Meaning.{audit, audited_on}
use Rattle.si_stages.proofs.audited.audit_texts.Goals as goal

pub returns-in_err-readings-clause-err : goal.returns-in_err-readings-clause-err
returns-in_err-readings-clause-err c =
    let a = c.args in
    stops (audit a.graph_file.now a.graph.now a.netlist_file.now a.netlist.now) c.from_residual.result _
    c.from_residual.ensures.1 (stop_first _ _ _ c.in_err-readings.ensures.err)

pub returns-clause-ok : goal.returns-clause-ok
returns-clause-ok c =
    let a = c.args in
    let read = audit_readings_now c.in_ok-readings.readings in
    IfOk-weaker c.audited_on.result
    (λ (text : List ℕ). audited_on a.netlist_file.now read.given.graph read.given.states read.netlist (Ok text))
    (λ (text : List ℕ). audit a.graph_file.now a.graph.now a.netlist_file.now a.netlist.now (Ok text))
    (λ text told. Passes read c.in_ok-readings.ensures.ok told)
    c.audited_on.ensures.ok

pub returns-clause-err : goal.returns-clause-err
returns-clause-err c =
    let a = c.args in
    let read = audit_readings_now c.in_ok-readings.readings in
    err_map c.audited_on.result
    (MayStop (audited_on a.netlist_file.now read.given.graph read.given.states read.netlist))
    (MayStop (audit a.graph_file.now a.graph.now a.netlist_file.now a.netlist.now))
    (λ e may. stop_next _ _ read e c.in_ok-readings.ensures.ok may)
    c.audited_on.ensures.err
