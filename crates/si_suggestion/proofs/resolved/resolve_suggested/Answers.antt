use Rattle.std.proofs.Common.{ℕ, List, Ok, sym, subst}
use Rattle.std.proofs.lemmas.Result.{IfOk-weaker}
use Rattle.si_base.specs.Graph.{StateGraph}
use Rattle.si_circuit.specs.Circuits.{AreStateNames}
use Rattle.si_circuit.specs.Spelled.{AreSpelled}
use Rattle.si_insert.specs.Lineage.{AllGiven}
use Rattle.si_readings.proofs.ReadingRefusals.{err_map, stops}
use Rattle.si_readings.proofs.StageLemmas.{stop_first, stop_next}
use Rattle.si_refusals.specs.Ending.{MayStop}
use Rattle.si_refusals.specs.Stages.{Passes}
use Rattle.si_sg.specs.GivenGraph.{sg_now}
use Rattle.si_suggestion.specs.Suggested.{resolve_suggested, suggested_graph}
use Rattle.si_suggestion.proofs.GivenNetlists.{given_signals, given_spelled, given_state_names}
use Rattle.si_suggestion.proofs.resolved.resolve_suggested.Goals as goal

-- ---- where a stage refuses
pub returns-in_err-model-clause-err : goal.returns-in_err-model-clause-err
returns-in_err-model-clause-err c =
    stops (resolve_suggested c.args.file.now c.args.text.now) c.from_residual.result _ c.from_residual.ensures.1
    (stop_first _ _ _ c.in_err-model.ensures.err)

pub returns-in_err-given-clause-err : goal.returns-in_err-given-clause-err
returns-in_err-given-clause-err c =
    stops (resolve_suggested c.args.file.now c.args.text.now) c.from_residual-in_err-given.result _
    c.from_residual-in_err-given.ensures.1
    (stop_next _ _ (sg_now c.in_ok-model.field-0) _ c.in_ok-model.ensures.ok
    (stop_first _ _ _ c.in_err-given.ensures.err))

-- ---- what the call asks for
pub suggested_graph-requires-clause-given : goal.suggested_graph-requires-clause-given
suggested_graph-requires-clause-given c =
    subst (λ (g : StateGraph). AllGiven g.signals) (sym c.in_ok-given.ensures.ok.same_graph)
    (given_signals c.args.text.now (sg_now c.in_ok-model.field-0) c.in_ok-model.ensures.ok)

pub suggested_graph-requires-clause-spelled : goal.suggested_graph-requires-clause-spelled
suggested_graph-requires-clause-spelled c =
    let sg = sg_now c.in_ok-model.field-0 in
    subst (λ (g : StateGraph). AreSpelled sg.model g.signals) (sym c.in_ok-given.ensures.ok.same_graph)
    (given_spelled c.args.text.now sg c.in_ok-model.ensures.ok)

pub suggested_graph-requires-clause-states : goal.suggested_graph-requires-clause-states
suggested_graph-requires-clause-states c =
    let sg = sg_now c.in_ok-model.field-0 in
    subst (λ (g : StateGraph). AreStateNames g sg.states) (sym c.in_ok-given.ensures.ok.same_graph)
    (given_state_names c.args.text.now sg c.in_ok-model.ensures.ok)

-- ---- the text after the insertions
pub returns-clause-ok : goal.returns-clause-ok
returns-clause-ok c =
    let a = c.args in
    let sg = sg_now c.in_ok-model.field-0 in
    let graph = c.in_ok-given.given in
    IfOk-weaker c.suggested_graph.result
    (λ (text : List ℕ). suggested_graph sg.model sg.states graph (Ok text))
    (λ (text : List ℕ). resolve_suggested a.file.now a.text.now (Ok text))
    (λ text told. Passes sg c.in_ok-model.ensures.ok (Passes graph c.in_ok-given.ensures.ok told))
    c.suggested_graph.ensures.ok

pub returns-clause-err : goal.returns-clause-err
returns-clause-err c =
    let a = c.args in
    let sg = sg_now c.in_ok-model.field-0 in
    let graph = c.in_ok-given.given in
    err_map c.suggested_graph.result (MayStop (suggested_graph sg.model sg.states graph))
    (MayStop (resolve_suggested a.file.now a.text.now))
    (λ e may. stop_next _ _ sg e c.in_ok-model.ensures.ok (stop_next _ _ graph e c.in_ok-given.ensures.ok may))
    c.suggested_graph.ensures.err
