use Rattle.std.proofs.Common.{Ok, subst}
use Rattle.std.proofs.lemmas.Result.{IfOk-weaker}
use Rattle.si_base.specs.Codes.{CodedGraph}
use Rattle.si_base.specs.System.{IsFor}
use Rattle.si_refusals.specs.Ending.{MayStop}
use Rattle.si_refusals.specs.Stages.{Passes}
use Rattle.si_readings.proofs.CheckLemmas.{match_over}
use Rattle.si_readings.proofs.ReadingRefusals.{err_map, stops}
use Rattle.si_readings.proofs.StageLemmas.{stop_first, stop_next}
use Rattle.si_stages.specs.Audited.{IsAudit, certification}
use Rattle.si_stages.specs.Meaning.{audited_on}
use Rattle.si_stages.proofs.audited.audited_on.Goals as goal

-- ---- where a stage refuses
pub returns-in_err-proper-clause-err : goal.returns-in_err-proper-clause-err
returns-in_err-proper-clause-err c =
    let a = c.args in
    stops (audited_on a.netlist_file.now a.graph a.states.now a.netlist) c.from_residual.result _
    c.from_residual.ensures.1 (stop_first _ _ _ c.in_err-proper.ensures.err)

pub returns-in_err-match_lists-clause-err : goal.returns-in_err-match_lists-clause-err
returns-in_err-match_lists-clause-err c =
    let a = c.args in
    stops (audited_on a.netlist_file.now a.graph a.states.now a.netlist)
    c.from_residual-in_err-match_lists.result _ c.from_residual-in_err-match_lists.ensures.1
    (stop_next _ _ c.in_ok-proper.proper _ c.in_ok-proper.ensures.ok
    (stop_first _ _ _ (match_over a.netlist_file.now _ _ a.netlist _ c.coded.ensures.same
    c.in_err-match_lists.ensures.err)))

-- ---- whether the netlist is certified
pub returns-clause-ok : goal.returns-clause-ok
returns-clause-ok c =
    let a = c.args in
    let proper = c.in_ok-proper.proper in
    let fits = subst (λ (k : CodedGraph). IsFor k a.netlist) c.coded.ensures.same c.in_ok-match_lists.ensures.ok in
    IfOk-weaker c.audited_text.result (λ text. IsAudit a.states.now proper a.netlist text)
    (λ text. audited_on a.netlist_file.now a.graph a.states.now a.netlist (Ok text))
    (λ text told. Passes proper c.in_ok-proper.ensures.ok (Passes tt fits told))
    c.audited_text.ensures.ok

pub returns-clause-err : goal.returns-clause-err
returns-clause-err c =
    let a = c.args in
    let proper = c.in_ok-proper.proper in
    let fits = subst (λ (k : CodedGraph). IsFor k a.netlist) c.coded.ensures.same c.in_ok-match_lists.ensures.ok in
    err_map c.audited_text.result (MayStop (certification a.states.now proper a.netlist))
    (MayStop (audited_on a.netlist_file.now a.graph a.states.now a.netlist))
    (λ e may. stop_next _ _ proper e c.in_ok-proper.ensures.ok (stop_next _ _ tt e fits may))
    c.audited_text.ensures.err
