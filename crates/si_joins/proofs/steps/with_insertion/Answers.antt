use Rattle.std.proofs.Common.{◌≡◌, ◌∙◌, List, ℕ, Ok, ap, subst}
use Rattle.std.proofs.lemmas.Result.{IfOk-weaker}
use Rattle.si_base.specs.Codes.{CodedGraph}
use Rattle.si_base.specs.Graph.{StateGraph}
use Rattle.si_insert.specs.Lineage.{History}
use Rattle.si_joins.specs.Lifted.{IsNamedAmong}
use Rattle.si_joins.specs.Steps.{apart, with_insertion, with_sets}
use Rattle.si_joins.proofs.StepAnswers.{free_name}
use Rattle.si_readings.proofs.ReadingRefusals.{err_map, stops}
use Rattle.si_readings.proofs.StageLemmas.{stop_first, stop_next}
use Rattle.si_refusals.specs.Ending.{MayStop, ending_of}
use Rattle.si_refusals.specs.Stages.{Passes}
use Rattle.si_joins.proofs.steps.with_insertion.Goals as goal

-- ---- over the graph that the calls hand out
named_in : (l : History) (coded handed : CodedGraph) (graph : StateGraph) (own name : List ℕ) → graph ≡ handed.graph
    → handed ≡ coded → coded ≡ l.current.coded → IsNamedAmong graph.signals own name
    → IsNamedAmong l.current.coded.graph.signals own name
named_in l coded handed graph own name graph_is handed_is coded_is named =
    subst (λ (g : StateGraph). IsNamedAmong g.signals own name)
    (graph_is ∙ ap (λ (d : CodedGraph). d.graph) (handed_is ∙ coded_is)) named

pub returns-in_err-pass_used-clause-err : goal.returns-in_err-pass_used-clause-err
returns-in_err-pass_used-clause-err c =
    let a = c.args in
    let named = named_in a.lineage _ _ _ a.own.now c.in_ok-name.name c.graph.ensures.same c.coded.ensures.same
    c.current.ensures.same c.in_ok-name.ensures.named in
    stops (with_insertion a.states.now a.lineage a.own.now a.plus.now a.minus.now)
    c.from_residual-in_err-pass_used.result _ c.from_residual-in_err-pass_used.ensures.1
    (stop_next _ _ c.in_ok-name.name _ named (stop_first _ _ _ c.in_err-pass_used.ensures.err))

pub returns-in_err-pass_apart-clause-err : goal.returns-in_err-pass_apart-clause-err
returns-in_err-pass_apart-clause-err c =
    let a = c.args in
    let named = named_in a.lineage _ _ _ a.own.now c.in_ok-name.name c.graph.ensures.same c.coded.ensures.same
    c.current.ensures.same c.in_ok-name.ensures.named in
    let may = subst (λ (k : ℕ). MayStop (apart k a.plus.now a.minus.now) (ending_of c.in_err-pass_apart.field-0.0))
    c.next_number.ensures c.in_err-pass_apart.ensures.err in
    stops (with_insertion a.states.now a.lineage a.own.now a.plus.now a.minus.now)
    c.from_residual-in_err-pass_apart.result _ c.from_residual-in_err-pass_apart.ensures.1
    (stop_next _ _ c.in_ok-name.name _ named (stop_next _ _ tt _ c.in_ok-pass_used.ensures.ok (stop_first _ _ _ may)))

pub with_sets-requires-clause-new : goal.with_sets-requires-clause-new
with_sets-requires-clause-new c =
    let a = c.args in
    free_name a.lineage.current.coded.graph.signals a.own.now c.in_ok-name.name
    (named_in a.lineage _ _ _ a.own.now c.in_ok-name.name c.graph.ensures.same c.coded.ensures.same
    c.current.ensures.same c.in_ok-name.ensures.named)

pub returns-clause-ok : goal.returns-clause-ok
returns-clause-ok c =
    let a = c.args in
    let name = c.in_ok-name.name in
    let named = named_in a.lineage _ _ _ a.own.now name c.graph.ensures.same c.coded.ensures.same
    c.current.ensures.same c.in_ok-name.ensures.named in
    IfOk-weaker c.with_sets.result
    (λ (m : History). with_sets a.states.now a.lineage a.own.now name a.plus.now a.minus.now (Ok m))
    (λ (m : History). with_insertion a.states.now a.lineage a.own.now a.plus.now a.minus.now (Ok m))
    (λ m all. Passes name named (Passes tt c.in_ok-pass_used.ensures.ok (Passes tt c.in_ok-pass_apart.ensures.ok all)))
    c.with_sets.ensures.ok

pub returns-clause-err : goal.returns-clause-err
returns-clause-err c =
    let a = c.args in
    let name = c.in_ok-name.name in
    let named = named_in a.lineage _ _ _ a.own.now name c.graph.ensures.same c.coded.ensures.same
    c.current.ensures.same c.in_ok-name.ensures.named in
    err_map c.with_sets.result
    (MayStop (with_sets a.states.now a.lineage a.own.now name a.plus.now a.minus.now))
    (MayStop (with_insertion a.states.now a.lineage a.own.now a.plus.now a.minus.now))
    (λ e may. stop_next _ _ name e named (stop_next _ _ tt e c.in_ok-pass_used.ensures.ok
    (stop_next _ _ tt e c.in_ok-pass_apart.ensures.ok may))) c.with_sets.ensures.err
