use Rattle.std.proofs.Common.{ℕ, List, Ok}
use Rattle.std.proofs.lemmas.Result.{IfOk-weaker}
use Rattle.si_readings.proofs.ReadingRefusals.{err_map, stops}
use Rattle.si_readings.proofs.StageLemmas.{stop_first, stop_next}
use Rattle.si_refusals.specs.Ending.{MayStop}
use Rattle.si_refusals.specs.Stages.{Passes}
use Rattle.si_reports.specs.Linted.{whole_now}
use Rattle.si_reports.specs.Meaning.{report, report_on}
use Rattle.si_reports.proofs.report.report.Goals as goal

pub returns-in_err-sg-clause-err : goal.returns-in_err-sg-clause-err
returns-in_err-sg-clause-err c =
    stops (report c.args.what c.args.file.now c.args.text.now) c.from_residual.result _ c.from_residual.ensures.1
    (stop_first _ _ _ c.in_err-sg.ensures.err)

pub returns-clause-ok : goal.returns-clause-ok
returns-clause-ok c =
    let a = c.args in
    let whole = whole_now c.in_ok-sg.field-0 in
    let g = whole.given in
    IfOk-weaker c.report_on.result
    (λ (text : List ℕ). report_on a.what g.model g.states whole.dropped g.graph (Ok text))
    (λ (text : List ℕ). report a.what a.file.now a.text.now (Ok text))
    (λ text told. Passes whole c.in_ok-sg.ensures.ok told)
    c.report_on.ensures.ok

pub returns-clause-err : goal.returns-clause-err
returns-clause-err c =
    let a = c.args in
    let whole = whole_now c.in_ok-sg.field-0 in
    let g = whole.given in
    err_map c.report_on.result (MayStop (report_on a.what g.model g.states whole.dropped g.graph))
    (MayStop (report a.what a.file.now a.text.now))
    (λ e may. stop_next _ _ whole e c.in_ok-sg.ensures.ok may)
    c.report_on.ensures.err
