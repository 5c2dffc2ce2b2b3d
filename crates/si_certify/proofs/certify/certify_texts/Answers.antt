use Rattle.std.proofs.Common.{ℕ, List, Ok}
use Rattle.std.proofs.lemmas.Result.{IfOk-weaker}
use Rattle.si_readings.specs.Readings.{audit_readings_now}
use Rattle.si_readings.proofs.ReadingLemmas.{audit_readings_are}
use Rattle.si_readings.proofs.ReadingRefusals.{err_map, stops}
use Rattle.si_readings.proofs.StageLemmas.{stop_first, stop_next}
use Rattle.si_refusals.specs.Ending.{MayStop}
use Rattle.si_refusals.specs.Stages.{Passes}
use Rattle.si_stages.proofs.GivenLineages.{given_state_names}
use Rattle.si_certify.specs.Certify.{certify, spelled_on}
use Rattle.si_certify.proofs.certify.certify_texts.Goals as goal

-- ---- where the readings refuse
pub returns-in_err-readings-clause-err : goal.returns-in_err-readings-clause-err
returns-in_err-readings-clause-err c =
    let a = c.args in
    stops (certify a.graph_file.now a.graph.now a.netlist_file.now a.netlist.now)
    c.from_residual-in_err-readings.result _ c.from_residual-in_err-readings.ensures.1
    (stop_first _ _ _ c.in_err-readings.ensures.err)

-- ---- what the call asks for
pub spelled_on-requires-clause-states : goal.spelled_on-requires-clause-states
spelled_on-requires-clause-states c =
    let a = c.args in
    let read = audit_readings_now c.in_ok-readings.readings in
    let are = audit_readings_are a.graph_file.now a.graph.now a.netlist_file.now a.netlist.now read
    c.in_ok-readings.ensures.ok in
    given_state_names a.graph.now read.given are.given

-- ---- the netlist with its lines
pub returns-clause-ok : goal.returns-clause-ok
returns-clause-ok c =
    let a = c.args in
    let read = audit_readings_now c.in_ok-readings.readings in
    IfOk-weaker c.spelled_on.result
    (λ (text : List ℕ). spelled_on a.netlist_file.now read.given.graph read.given.states read.netlist (Ok text))
    (λ (text : List ℕ). certify a.graph_file.now a.graph.now a.netlist_file.now a.netlist.now (Ok text))
    (λ text told. Passes read c.in_ok-readings.ensures.ok told)
    c.spelled_on.ensures.ok

pub returns-clause-err : goal.returns-clause-err
returns-clause-err c =
    let a = c.args in
    let read = audit_readings_now c.in_ok-readings.readings in
    err_map c.spelled_on.result
    (MayStop (spelled_on a.netlist_file.now read.given.graph read.given.states read.netlist))
    (MayStop (certify a.graph_file.now a.graph.now a.netlist_file.now a.netlist.now))
    (λ e may. stop_next _ _ read e c.in_ok-readings.ensures.ok may)
    c.spelled_on.ensures.err
