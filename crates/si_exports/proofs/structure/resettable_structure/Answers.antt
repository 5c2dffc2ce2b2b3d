use Rattle.std.proofs.Common.{ℕ, List, Ok, Some}
use Rattle.std.proofs.lemmas.Result.{IfOk-weaker}
use Rattle.si_refusals.specs.Ending.{MayStop}
use Rattle.si_refusals.specs.Stages.{Passes}
use Rattle.si_exports.specs.Structure.{structure, structured}
use Rattle.si_readings.proofs.ReadingRefusals.{err_map, stops}
use Rattle.si_readings.proofs.StageLemmas.{stop_first, stop_next}
use Rattle.si_exports.proofs.structure.resettable_structure.Goals as goal

pub returns-in_err-controller-clause-err : goal.returns-in_err-controller-clause-err
returns-in_err-controller-clause-err c =
    let a = c.args in
    stops (structure a.format a.complements (Some a.name.now) a.netlist_file.now a.netlist.now a.library_file.now
    a.library.now)
    c.from_residual.result _ c.from_residual.ensures.1 (stop_first _ _ _ c.in_err-controller.ensures.err)

pub returns-in_err-ported-clause-err : goal.returns-in_err-ported-clause-err
returns-in_err-ported-clause-err c =
    let a = c.args in
    stops (structure a.format a.complements (Some a.name.now) a.netlist_file.now a.netlist.now a.library_file.now
    a.library.now)
    c.from_residual-in_err-ported.result _ c.from_residual-in_err-ported.ensures.1
    (stop_next _ _ c.in_ok-controller.controller _ c.in_ok-controller.ensures.ok
    (stop_first _ _ _ c.in_err-ported.ensures.err))

pub returns-in_err-reset-clause-err : goal.returns-in_err-reset-clause-err
returns-in_err-reset-clause-err c =
    let a = c.args in
    stops (structure a.format a.complements (Some a.name.now) a.netlist_file.now a.netlist.now a.library_file.now
    a.library.now)
    c.from_residual-in_err-reset.result _ c.from_residual-in_err-reset.ensures.1
    (stop_next _ _ c.in_ok-controller.controller _ c.in_ok-controller.ensures.ok
    (stop_next _ _ c.in_ok-ported.ported _ c.in_ok-ported.ensures.ok
    (stop_first _ _ _ c.in_err-reset.ensures.err)))

pub returns-clause-ok : goal.returns-clause-ok
returns-clause-ok c =
    let a = c.args in
    IfOk-weaker c.structured.result
    (λ (text : List ℕ). structured a.complements c.in_ok-ported.ported c.in_ok-reset.reset
    c.in_ok-controller.controller (Ok text))
    (λ (text : List ℕ). structure a.format a.complements (Some a.name.now) a.netlist_file.now a.netlist.now
    a.library_file.now a.library.now (Ok text))
    (λ text is. Passes c.in_ok-controller.controller c.in_ok-controller.ensures.ok
    (Passes c.in_ok-ported.ported c.in_ok-ported.ensures.ok (Passes c.in_ok-reset.reset c.in_ok-reset.ensures.ok is)))
    c.structured.ensures.ok

pub returns-clause-err : goal.returns-clause-err
returns-clause-err c =
    let a = c.args in
    err_map c.structured.result (MayStop (structured a.complements c.in_ok-ported.ported c.in_ok-reset.reset
    c.in_ok-controller.controller))
    (MayStop (structure a.format a.complements (Some a.name.now) a.netlist_file.now a.netlist.now a.library_file.now
    a.library.now))
    (λ e may. stop_next _ _ c.in_ok-controller.controller e c.in_ok-controller.ensures.ok
    (stop_next _ _ c.in_ok-ported.ported e c.in_ok-ported.ensures.ok
    (stop_next _ _ c.in_ok-reset.reset e c.in_ok-reset.ensures.ok may)))
    c.structured.ensures.err
