use Rattle.std.proofs.Common.{ap, subst, Ok}
use Rattle.si_base.specs.Codes.{CodedGraph}
use Rattle.si_base.specs.Graph.{StateGraph}
use Rattle.si_readings.specs.Checks.{proper}
use Rattle.si_readings.specs.Readings.{audit_readings_now}
use Rattle.si_readings.proofs.ReadingRefusals.{stops}
use Rattle.si_readings.proofs.StageLemmas.{stop_first, stop_next}
use Rattle.si_refusals.specs.Ending.{MayStop, ending_of}
use Rattle.si_refusals.specs.Stages.{Passes}
use Rattle.si_works.specs.Audited.{AuditedPart, audited_part}
use Rattle.si_works.proofs.audited.audited_part.Goals as goal

pub returns-in_err-certified-clause-err : goal.returns-in_err-certified-clause-err
returns-in_err-certified-clause-err c =
    let a = c.args in
    stops (audited_part a.graph_file.now a.graph.now a.netlist_file.now a.netlist.now)
    c.from_residual.result _ c.from_residual.ensures.1 (stop_first _ _ _ c.in_err-certified.ensures.err)

pub returns-in_err-readings-clause-err : goal.returns-in_err-readings-clause-err
returns-in_err-readings-clause-err c =
    let a = c.args in
    stops (audited_part a.graph_file.now a.graph.now a.netlist_file.now a.netlist.now)
    c.from_residual-in_err-readings.result _ c.from_residual-in_err-readings.ensures.1
    (stop_next _ _ _ _ c.in_ok-certified.ensures.ok (stop_first _ _ _ c.in_err-readings.ensures.err))

pub returns-in_err-proper-clause-err : goal.returns-in_err-proper-clause-err
returns-in_err-proper-clause-err c =
    let a = c.args in
    let read = audit_readings_now c.in_ok-readings.readings in
    let may = subst (λ (g : StateGraph). MayStop (proper g read.given.states) (ending_of c.in_err-proper.field-0.0))
    c.in_ok-graph.ensures c.in_err-proper.ensures.err in
    stops (audited_part a.graph_file.now a.graph.now a.netlist_file.now a.netlist.now)
    c.from_residual-in_err-proper.result _ c.from_residual-in_err-proper.ensures.1
    (stop_next _ _ _ _ c.in_ok-certified.ensures.ok
    (stop_next _ _ read _ c.in_ok-readings.ensures.ok (stop_first _ _ _ may)))

pub returns-clause-ok : goal.returns-clause-ok
returns-clause-ok c =
    let read = audit_readings_now c.in_ok-readings.readings in
    let coded = c.in_ok-proper.proper in
    let sound = subst (λ (g : StateGraph). proper g read.given.states (Ok coded)) c.in_ok-graph.ensures
    c.in_ok-proper.ensures.ok in
    let make : CodedGraph → AuditedPart =
    λ k. record { given = read.given; coded = k; netlist = read.netlist } in
    Passes _ c.in_ok-certified.ensures.ok
    (Passes read c.in_ok-readings.ensures.ok (Passes coded sound (ap (λ (k : CodedGraph). Ok (make k)) c.into_coded-part.ensures)))
