use Rattle.std.proofs.Common.{Ok}
use Rattle.std.proofs.lemmas.Result.{IfOk-weaker}
use Rattle.si_refusals.specs.Ending.{MayStop}
use Rattle.si_refusals.specs.Stages.{Passes}
use Rattle.si_reports.specs.Meaning.{replay}
use Rattle.si_readings.specs.Readings.{replay_readings_now}
use Rattle.si_reports.specs.Replayed.{replay_on}
use Rattle.si_readings.proofs.ReadingRefusals.{err_map, stops}
use Rattle.si_readings.proofs.StageLemmas.{stop_first, stop_next}
use Rattle.si_reports.proofs.replayed.replay_texts.Goals as goal

-- ---- where the readings refuse
pub returns-in_err-readings-clause-err : goal.returns-in_err-readings-clause-err
returns-in_err-readings-clause-err c =
    let a = c.args in
    stops (replay a.what a.graph_file.now a.graph.now a.netlist_file.now a.netlist.now a.schedule_file.now
    a.schedule.now)
    c.from_residual.result _ c.from_residual.ensures.1 (stop_first _ _ _ c.in_err-readings.ensures.err)

-- ---- what is told of the schedule
pub returns-clause-ok : goal.returns-clause-ok
returns-clause-ok c =
    let a = c.args in
    let read = replay_readings_now c.in_ok-readings.readings in
    IfOk-weaker c.replay_on.result
    (λ text. replay_on a.what a.netlist_file.now read.given.graph read.given.states read.netlist read.events (Ok text))
    (λ text. replay a.what a.graph_file.now a.graph.now a.netlist_file.now a.netlist.now a.schedule_file.now
    a.schedule.now (Ok text))
    (λ text told. Passes read c.in_ok-readings.ensures.ok told)
    c.replay_on.ensures.ok

pub returns-clause-err : goal.returns-clause-err
returns-clause-err c =
    let a = c.args in
    let read = replay_readings_now c.in_ok-readings.readings in
    err_map c.replay_on.result
    (MayStop
    (replay_on a.what a.netlist_file.now read.given.graph read.given.states read.netlist read.events))
    (MayStop
    (replay a.what a.graph_file.now a.graph.now a.netlist_file.now a.netlist.now a.schedule_file.now a.schedule.now))
    (λ e may. stop_next _ _ read e c.in_ok-readings.ensures.ok may)
    c.replay_on.ensures.err
