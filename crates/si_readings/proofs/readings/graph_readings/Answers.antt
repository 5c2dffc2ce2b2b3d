use Rattle.std.proofs.Common.{refl}
use Rattle.si_refusals.specs.Stages.{Passes}
use Rattle.si_sg.specs.GivenGraph.{sg_now}
use Rattle.si_readings.specs.Readings.{graph_readings}
use Rattle.si_readings.proofs.ReadingRefusals.{stops}
use Rattle.si_readings.proofs.StageLemmas.{stop_first, stop_next}
use Rattle.si_readings.proofs.readings.graph_readings.Goals as goal

pub returns-in_err-one-clause-err : goal.returns-in_err-one-clause-err
returns-in_err-one-clause-err c =
    let a = c.args in
    stops (graph_readings a.one_file.now a.one.now a.other_file.now a.other.now) c.from_residual.result _
    c.from_residual.ensures.1 (stop_first _ _ _ c.in_err-one.ensures.err)

pub returns-in_err-other-clause-err : goal.returns-in_err-other-clause-err
returns-in_err-other-clause-err c =
    let a = c.args in
    stops (graph_readings a.one_file.now a.one.now a.other_file.now a.other.now)
    c.from_residual-in_err-other.result _ c.from_residual-in_err-other.ensures.1
    (stop_next _ _ (sg_now c.in_ok-one.one) _ c.in_ok-one.ensures.ok
    (stop_first _ _ _ c.in_err-other.ensures.err))

pub returns-clause-ok : goal.returns-clause-ok
returns-clause-ok c =
    Passes (sg_now c.in_ok-one.one) c.in_ok-one.ensures.ok
    (Passes (sg_now c.in_ok-other.other) c.in_ok-other.ensures.ok refl)
