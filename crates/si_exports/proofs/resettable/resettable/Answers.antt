use Rattle.std.proofs.Common.{ℕ, List, Ok}
use Rattle.std.proofs.lemmas.Result.{IfOk-weaker}
use Rattle.si_refusals.specs.Ending.{MayStop}
use Rattle.si_refusals.specs.Stages.{Passes}
use Rattle.si_exports.specs.Resettable.{resettable, with_reset}
use Rattle.si_readings.proofs.ReadingRefusals.{err_map, stops}
use Rattle.si_readings.proofs.StageLemmas.{stop_first, stop_next}
use Rattle.si_exports.proofs.resettable.resettable.Goals as goal

pub returns-in_err-netlist-clause-err : goal.returns-in_err-netlist-clause-err
returns-in_err-netlist-clause-err c =
    stops (resettable c.args.file.now c.args.text.now c.args.name.now) c.from_residual.result _
    c.from_residual.ensures.1 (stop_first _ _ _ c.in_err-netlist.ensures.err)

pub returns-clause-ok : goal.returns-clause-ok
returns-clause-ok c =
    let a = c.args in
    IfOk-weaker c.with_reset.result
    (λ (text : List ℕ). with_reset a.name.now c.in_ok-netlist.netlist (Ok text))
    (λ (text : List ℕ). resettable a.file.now a.text.now a.name.now (Ok text))
    (λ text is. Passes c.in_ok-netlist.netlist c.in_ok-netlist.ensures.ok is)
    c.with_reset.ensures.ok

pub returns-clause-err : goal.returns-clause-err
returns-clause-err c =
    let a = c.args in
    err_map c.with_reset.result (MayStop (with_reset a.name.now c.in_ok-netlist.netlist))
    (MayStop (resettable a.file.now a.text.now a.name.now))
    (λ e may. stop_next _ _ c.in_ok-netlist.netlist e c.in_ok-netlist.ensures.ok may)
    c.with_reset.ensures.err
