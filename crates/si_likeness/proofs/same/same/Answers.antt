use Rattle.std.proofs.Common.{ℕ, List, Ok}
use Rattle.si_refusals.specs.Ending.{MayStop}
use Rattle.si_refusals.specs.Stages.{Passes}
use Rattle.si_readings.specs.Readings.{graph_readings_now}
use Rattle.std.proofs.lemmas.Result.{IfOk-weaker}
use Rattle.si_readings.proofs.ReadingRefusals.{err_map, stops}
use Rattle.si_readings.proofs.StageLemmas.{stop_first, stop_next}
use Rattle.si_likeness.specs.Same.{likeness_of, same}
use Rattle.si_likeness.proofs.same.same.Goals as goal

pub returns-in_err-readings-clause-err : goal.returns-in_err-readings-clause-err
returns-in_err-readings-clause-err c =
    let a = c.args in
    stops (same a.one_file.now a.one.now a.other_file.now a.other.now) c.from_residual.result _
    c.from_residual.ensures.1 (stop_first _ _ _ c.in_err-readings.ensures.err)

pub returns-clause-ok : goal.returns-clause-ok
returns-clause-ok c =
    let a = c.args in
    let read = graph_readings_now c.in_ok-readings.readings in
    IfOk-weaker c.likeness_of.result
    (λ (text : List ℕ). likeness_of a.one_file.now read.one.graph read.one.states a.other_file.now read.other.graph
    read.other.states (Ok text))
    (λ (text : List ℕ). same a.one_file.now a.one.now a.other_file.now a.other.now (Ok text))
    (λ text told. Passes read c.in_ok-readings.ensures.ok told)
    c.likeness_of.ensures.ok

pub returns-clause-err : goal.returns-clause-err
returns-clause-err c =
    let a = c.args in
    let read = graph_readings_now c.in_ok-readings.readings in
    err_map c.likeness_of.result
    (MayStop (likeness_of a.one_file.now read.one.graph read.one.states a.other_file.now read.other.graph
    read.other.states))
    (MayStop (same a.one_file.now a.one.now a.other_file.now a.other.now))
    (λ e may. stop_next _ _ read e c.in_ok-readings.ensures.ok may)
    c.likeness_of.ensures.err
