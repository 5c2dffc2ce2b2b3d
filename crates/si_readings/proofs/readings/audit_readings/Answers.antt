use Rattle.std.proofs.Common.{refl}
use Rattle.si_refusals.specs.Stages.{Passes}
use Rattle.si_sg.specs.GivenGraph.{sg_now}
use Rattle.si_readings.specs.Readings.{audit_readings}
use Rattle.si_readings.proofs.ReadingRefusals.{stops}
use Rattle.si_readings.proofs.StageLemmas.{stop_first, stop_next}
use Rattle.si_readings.proofs.readings.audit_readings.Goals as goal

pub returns-in_err-given-clause-err : goal.returns-in_err-given-clause-err
returns-in_err-given-clause-err c =
    let a = c.args in
    stops (audit_readings a.graph_file.now a.graph.now a.netlist_file.now a.netlist.now) c.from_residual.result _
    c.from_residual.ensures.1 (stop_first _ _ _ c.in_err-given.ensures.err)

pub returns-in_err-netlist-clause-err : goal.returns-in_err-netlist-clause-err
returns-in_err-netlist-clause-err c =
    let a = c.args in
    stops (audit_readings a.graph_file.now a.graph.now a.netlist_file.now a.netlist.now)
    c.from_residual-in_err-netlist.result _ c.from_residual-in_err-netlist.ensures.1
    (stop_next _ _ (sg_now c.in_ok-given.given) _ c.in_ok-given.ensures.ok
    (stop_first _ _ _ c.in_err-netlist.ensures.err))

pub returns-clause-ok : goal.returns-clause-ok
returns-clause-ok c =
    Passes (sg_now c.in_ok-given.given) c.in_ok-given.ensures.ok
    (Passes c.in_ok-netlist.netlist c.in_ok-netlist.ensures.ok refl)
