use Rattle.std.proofs.Common.{List, Ok, subst}
use Rattle.std.proofs.lemmas.Result.{IfOk-weaker}
use Rattle.si_insert.specs.Accepted.{IsAccepted}
use Rattle.si_insert.specs.Lineage.{Extends, History}
use Rattle.si_insert.specs.declared.partition.Class.{Class}
use Rattle.si_joins.specs.Steps.{extended, with_sets}
use Rattle.si_readings.proofs.ReadingRefusals.{stops}
use Rattle.si_readings.proofs.StageLemmas.{stop_first, stop_next}
use Rattle.si_refusals.specs.Stages.{Passes}
use Rattle.si_joins.proofs.steps.with_sets.Goals as goal

pub returns-in_err-partition-clause-err : goal.returns-in_err-partition-clause-err
returns-in_err-partition-clause-err c =
    let a = c.args in
    stops (with_sets a.states.now a.lineage a.own.now a.name a.plus.now a.minus.now)
    c.from_residual.result _ c.from_residual.ensures.1
    (stop_first _ _ _ c.in_err-partition.ensures.err)

pub returns-in_err-accepted-clause-err : goal.returns-in_err-accepted-clause-err
returns-in_err-accepted-clause-err c =
    let a = c.args in
    stops (with_sets a.states.now a.lineage a.own.now a.name a.plus.now a.minus.now)
    c.from_residual-in_err-accepted.result _ c.from_residual-in_err-accepted.ensures.1
    (stop_next _ _ c.in_ok-partition.partition _ c.in_ok-partition.ensures.ok
    (stop_first _ _ _ c.in_err-accepted.ensures.err))

pub returns-clause-ok : goal.returns-clause-ok
returns-clause-ok c =
    let a = c.args in
    let classes = c.in_ok-partition.partition in
    let same = c.in_ok-accepted.ensures.same in
    let is = subst (λ (cs : List Class). IsAccepted a.lineage.current.coded.graph cs) same
    c.in_ok-accepted.ensures.accepted in
    IfOk-weaker c.extended.result
    (λ (m : History). extended a.lineage (record { name = a.name; partition = c.in_ok-accepted.accepted }) (Ok m))
    (λ (m : History). with_sets a.states.now a.lineage a.own.now a.name a.plus.now a.minus.now (Ok m))
    (λ m goes. Passes classes c.in_ok-partition.ensures.ok (Passes tt is
    (subst (λ (cs : List Class). Extends a.lineage (record { name = a.name; partition = cs }) m) same goes)))
    c.extended.ensures.ok
