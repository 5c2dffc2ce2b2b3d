use Rattle.std.proofs.Common.{refl}
use Rattle.si_refusals.specs.Stages.{Passes}
use Rattle.si_sg.specs.GivenGraph.{sg_now}
use Rattle.si_readings.specs.Readings.{mapping_readings}
use Rattle.si_readings.proofs.ReadingRefusals.{stops}
use Rattle.si_readings.proofs.StageLemmas.{stop_first, stop_next}
use Rattle.si_readings.proofs.readings.mapping_readings.Goals as goal

pub returns-in_err-given-clause-err : goal.returns-in_err-given-clause-err
returns-in_err-given-clause-err c =
    let a = c.args in
    stops (mapping_readings a.format a.graph_file.now a.graph.now a.library_file.now a.library.now)
    c.from_residual.result _ c.from_residual.ensures.1 (stop_first _ _ _ c.in_err-given.ensures.err)

pub returns-in_err-library-clause-err : goal.returns-in_err-library-clause-err
returns-in_err-library-clause-err c =
    let a = c.args in
    stops (mapping_readings a.format a.graph_file.now a.graph.now a.library_file.now a.library.now)
    c.from_residual-in_err-library.result _ c.from_residual-in_err-library.ensures.1
    (stop_next _ _ (sg_now c.in_ok-given.given) _ c.in_ok-given.ensures.ok
    (stop_first _ _ _ c.in_err-library.ensures.err))

pub returns-clause-ok : goal.returns-clause-ok
returns-clause-ok c =
    Passes (sg_now c.in_ok-given.given) c.in_ok-given.ensures.ok
    (Passes c.in_ok-library.library c.in_ok-library.ensures.ok refl)
