use Rattle.si_reports.specs.Meaning.{on_proper}
use Rattle.si_refusals.specs.Stages.{Passes}
use Rattle.si_readings.proofs.ReadingRefusals.{stops}
use Rattle.si_readings.proofs.StageLemmas.{stop_first}
use Rattle.si_reports.proofs.report.on_proper.Goals as goal

pub returns-in_err-proper-clause-err : goal.returns-in_err-proper-clause-err
returns-in_err-proper-clause-err c =
    let a = c.args in
    stops (on_proper a.what a.model.now a.states.now a.graph) c.from_residual.result _ c.from_residual.ensures.1
    (stop_first _ _ _ c.in_err-proper.ensures.err)

pub returns-in-Ok-clause-ok : goal.returns-in-Ok-clause-ok
returns-in-Ok-clause-ok c = Passes c.in_ok-proper.proper c.in_ok-proper.ensures.ok c.in-Ok.ensures
