use Rattle.std.proofs.Common.{ℕ, List, Ok}
use Rattle.std.proofs.lemmas.Result.{IfOk-weaker}
use Rattle.si_readings.proofs.ReadingLemmas.{mapping_readings_are}
use Rattle.si_readings.proofs.ReadingRefusals.{err_map, stops}
use Rattle.si_readings.proofs.StageLemmas.{stop_first, stop_next}
use Rattle.si_readings.specs.Readings.{mapping_readings_now}
use Rattle.si_refusals.specs.Ending.{MayStop}
use Rattle.si_refusals.specs.Stages.{Passes}
use Rattle.si_readings.proofs.LibraryReadings.{is_library}
use Rattle.si_suggestion.specs.Suggested.{map_suggested, suggested_mapping}
use Rattle.si_suggestion.proofs.mapped.map_suggested.Goals as goal

-- ---- where a text is refused
pub returns-in_err-readings-clause-err : goal.returns-in_err-readings-clause-err
returns-in_err-readings-clause-err c =
    let a = c.args in
    stops (map_suggested a.format a.graph_file.now a.graph.now a.library_file.now a.library.now) c.from_residual.result _
    c.from_residual.ensures.1 (stop_first _ _ _ c.in_err-readings.ensures.err)

-- ---- what the call asks for
pub suggested_mapping-requires-clause-library : goal.suggested_mapping-requires-clause-library
suggested_mapping-requires-clause-library c =
    let a = c.args in
    let read = mapping_readings_now c.in_ok-readings.readings in
    let are = mapping_readings_are a.format a.graph_file.now a.graph.now a.library_file.now a.library.now read
    c.in_ok-readings.ensures.ok in
    is_library a.format a.library.now read.library are.no_fault are.library

pub suggested_mapping-requires-clause-given : goal.suggested_mapping-requires-clause-given
suggested_mapping-requires-clause-given c =
    let a = c.args in
    let read = mapping_readings_now c.in_ok-readings.readings in
    let are = mapping_readings_are a.format a.graph_file.now a.graph.now a.library_file.now a.library.now read
    c.in_ok-readings.ensures.ok in
    (a.graph.now, are.given)

-- ---- the netlist of cells
pub returns-clause-ok : goal.returns-clause-ok
returns-clause-ok c =
    let a = c.args in
    let read = mapping_readings_now c.in_ok-readings.readings in
    IfOk-weaker c.suggested_mapping.result
    (λ (text : List ℕ). suggested_mapping read.library read.given (Ok text))
    (λ (text : List ℕ). map_suggested a.format a.graph_file.now a.graph.now a.library_file.now a.library.now (Ok text))
    (λ text told. Passes read c.in_ok-readings.ensures.ok told)
    c.suggested_mapping.ensures.ok

pub returns-clause-err : goal.returns-clause-err
returns-clause-err c =
    let a = c.args in
    let read = mapping_readings_now c.in_ok-readings.readings in
    err_map c.suggested_mapping.result (MayStop (suggested_mapping read.library read.given))
    (MayStop (map_suggested a.format a.graph_file.now a.graph.now a.library_file.now a.library.now))
    (λ e may. stop_next _ _ read e c.in_ok-readings.ensures.ok may)
    c.suggested_mapping.ensures.err
