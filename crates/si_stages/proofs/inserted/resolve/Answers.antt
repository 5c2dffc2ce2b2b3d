use Rattle.std.proofs.Common.{ℕ, List, Ok}
use Rattle.std.proofs.lemmas.Result.{IfOk-weaker}
use Rattle.si_readings.proofs.ReadingRefusals.{err_map, stops}
use Rattle.si_readings.proofs.StageLemmas.{stop_first, stop_next}
use Rattle.si_refusals.specs.Ending.{MayStop}
use Rattle.si_refusals.specs.Stages.{Passes}
use Rattle.si_sg.specs.GivenGraph.{sg_now}
use Rattle.si_stages.specs.Inserted.{resolve, resolved_text}
use Rattle.si_stages.proofs.GivenLineages.{given_signals, given_state_names}
use Rattle.si_stages.proofs.inserted.resolve.Goals as goal

-- ---- where the text is refused
pub returns-in_err-model-clause-err : goal.returns-in_err-model-clause-err
returns-in_err-model-clause-err c =
    stops (resolve c.args.file.now c.args.text.now) c.from_residual.result _ c.from_residual.ensures.1
    (stop_first _ _ _ c.in_err-model.ensures.err)

-- ---- what the call asks for
pub resolved_text-requires-clause-given : goal.resolved_text-requires-clause-given
resolved_text-requires-clause-given c =
    given_signals c.args.text.now (sg_now c.in_ok-model.field-0) c.in_ok-model.ensures.ok

pub resolved_text-requires-clause-states : goal.resolved_text-requires-clause-states
resolved_text-requires-clause-states c =
    given_state_names c.args.text.now (sg_now c.in_ok-model.field-0) c.in_ok-model.ensures.ok

-- ---- the text after the insertions
pub returns-clause-ok : goal.returns-clause-ok
returns-clause-ok c =
    let given = sg_now c.in_ok-model.field-0 in
    IfOk-weaker c.resolved_text.result
    (λ (text : List ℕ). resolved_text given.model given.states given.graph (Ok text))
    (λ (text : List ℕ). resolve c.args.file.now c.args.text.now (Ok text))
    (λ text told. Passes given c.in_ok-model.ensures.ok told)
    c.resolved_text.ensures.ok

pub returns-clause-err : goal.returns-clause-err
returns-clause-err c =
    let given = sg_now c.in_ok-model.field-0 in
    err_map c.resolved_text.result (MayStop (resolved_text given.model given.states given.graph))
    (MayStop (resolve c.args.file.now c.args.text.now))
    (λ e may. stop_next _ _ given e c.in_ok-model.ensures.ok may)
    c.resolved_text.ensures.err
