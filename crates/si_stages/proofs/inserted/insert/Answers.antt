use Rattle.std.proofs.Common.{List, Ok, ℕ}
use Rattle.std.proofs.lemmas.Result.{IfOk-weaker}
use Rattle.si_readings.proofs.ReadingRefusals.{err_map, stops}
use Rattle.si_readings.proofs.ReadingLemmas.{audit_readings_are}
use Rattle.si_readings.proofs.StageLemmas.{stop_first, stop_next}
use Rattle.si_readings.specs.Readings.{audit_readings_now}
use Rattle.si_refusals.specs.Ending.{MayStop}
use Rattle.si_refusals.specs.Stages.{Passes}
use Rattle.si_stages.specs.Inserted.{insert, inserted_text}
use Rattle.si_stages.proofs.inserted.insert.Goals as goal

-- ---- where the readings refuse
pub returns-in_err-readings-clause-err : goal.returns-in_err-readings-clause-err
returns-in_err-readings-clause-err c =
    let a = c.args in
    stops (insert a.graph_file.now a.graph.now a.netlist_file.now a.netlist.now) c.from_residual.result _
    c.from_residual.ensures.1 (stop_first _ _ _ c.in_err-readings.ensures.err)

-- ---- what the call asks for
pub inserted_text-requires-clause-given : goal.inserted_text-requires-clause-given
inserted_text-requires-clause-given c =
    let a = c.args in
    let are = audit_readings_are a.graph_file.now a.graph.now a.netlist_file.now a.netlist.now
    (audit_readings_now c.in_ok-readings.readings) c.in_ok-readings.ensures.ok in
    (a.graph.now, are.given)

-- ---- the text after the insertions
pub returns-clause-ok : goal.returns-clause-ok
returns-clause-ok c =
    let a = c.args in
    let read = audit_readings_now c.in_ok-readings.readings in
    IfOk-weaker c.inserted_text.result
    (λ (text : List ℕ). inserted_text a.netlist_file.now read.given read.netlist (Ok text))
    (λ (text : List ℕ). insert a.graph_file.now a.graph.now a.netlist_file.now a.netlist.now (Ok text))
    (λ text told. Passes read c.in_ok-readings.ensures.ok told)
    c.inserted_text.ensures.ok

pub returns-clause-err : goal.returns-clause-err
returns-clause-err c =
    let a = c.args in
    let read = audit_readings_now c.in_ok-readings.readings in
    err_map c.inserted_text.result (MayStop (inserted_text a.netlist_file.now read.given read.netlist))
    (MayStop (insert a.graph_file.now a.graph.now a.netlist_file.now a.netlist.now))
    (λ e may. stop_next _ _ read e c.in_ok-readings.ensures.ok may)
    c.inserted_text.ensures.err
