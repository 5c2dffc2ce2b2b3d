use Rattle.si_refusals.specs.Stages.{Passes}
use Rattle.si_refusals.specs.declared.refusals.Refusal.TheVariants.{NoMemory}
use Rattle.si_sg.specs.GivenGraph.{sg_now}
use Rattle.si_stages.specs.Meaning.{synth}
use Rattle.si_stages.proofs.GivenLineages.{given_lineage, given_signals}
use Rattle.si_readings.proofs.ReadingRefusals.{stops}
use Rattle.si_stages.proofs.ResolutionLemmas.{resolution_is}
use Rattle.si_readings.proofs.StageLemmas.{stop_first, stop_next}
use Rattle.si_stages.proofs.SynthesisLemmas.{is_synthesis}
use Rattle.si_stages.proofs.synth.synth.Goals as goal

-- ---- where a stage refuses
pub returns-in_err-model-clause-err : goal.returns-in_err-model-clause-err
returns-in_err-model-clause-err c =
    stops (synth c.args.style c.args.file.now c.args.text.now) c.from_residual.result _ c.from_residual.ensures.1
    (stop_first _ _ _ c.in_err-model.ensures.err)

pub returns-in_err-resolved-clause-err : goal.returns-in_err-resolved-clause-err
returns-in_err-resolved-clause-err c =
    stops (synth c.args.style c.args.file.now c.args.text.now)
    c.from_residual-in_err-resolved.result _ c.from_residual-in_err-resolved.ensures.1
    (stop_next _ _ (sg_now c.in_ok-model.field-0) _ c.in_ok-model.ensures.ok
    (stop_first _ _ _ c.in_err-resolved.ensures.err))

pub returns-in_err-output-clause-err : goal.returns-in_err-output-clause-err
returns-in_err-output-clause-err c =
    stops (synth c.args.style c.args.file.now c.args.text.now)
    c.from_residual-in_err-output.result NoMemory c.from_residual-in_err-output.ensures.1 tt

-- ---- what the calls ask for
pub resolution-requires-clause-given : goal.resolution-requires-clause-given
resolution-requires-clause-given c =
    given_signals c.args.text.now (sg_now c.in_ok-model.field-0) c.in_ok-model.ensures.ok

pub gates_text-requires-clause-spelled : goal.gates_text-requires-clause-spelled
gates_text-requires-clause-spelled c =
    let given = sg_now c.in_ok-model.field-0 in
    let l = c.in_ok-resolved.resolved in
    let is = resolution_is given.graph given.states l c.in_ok-resolved.ensures.ok in
    (given_lineage c.args.text.now given l c.in_ok-model.ensures.ok is).spelled

pub gates_text-requires-clause-states : goal.gates_text-requires-clause-states
gates_text-requires-clause-states c =
    let given = sg_now c.in_ok-model.field-0 in
    let l = c.in_ok-resolved.resolved in
    let is = resolution_is given.graph given.states l c.in_ok-resolved.ensures.ok in
    (given_lineage c.args.text.now given l c.in_ok-model.ensures.ok is).names

-- ---- the output
pub returns-clause-ok : goal.returns-clause-ok
returns-clause-ok c =
    let style = c.args.style in
    let given = sg_now c.in_ok-model.field-0 in
    let l = c.in_ok-resolved.resolved in
    let resolves = c.in_ok-resolved.ensures.ok in
    let is = resolution_is given.graph given.states l resolves in
    let output = is_synthesis style c.args.text.now given l c.in_ok-output.output c.in_ok-model.ensures.ok is
    c.in_ok-output.ensures in
    Passes given c.in_ok-model.ensures.ok (Passes l resolves output)
