use Rattle.std.proofs.Common.{◌∙◌, ℕ, List, Ok, ap, sym, subst}
use Rattle.si_base.specs.Graph.{StateGraph}
use Rattle.si_circuit.specs.Circuits.{AreStateNames}
use Rattle.si_insert.specs.Lineage.{History}
use Rattle.si_inserted.specs.Current.{current_sg}
use Rattle.si_readings.proofs.ReadingRefusals.{stops}
use Rattle.si_readings.proofs.StageLemmas.{stop_first}
use Rattle.si_refusals.specs.Stages.{Passes}
use Rattle.si_refusals.specs.declared.refusals.Refusal.TheVariants.{NoMemory}
use Rattle.si_sg.specs.CanonicalText.{sg_text}
use Rattle.si_stages.specs.Inserted.{resolved_text}
use Rattle.si_stages.proofs.ResolutionLemmas.{resolution_is}
use Rattle.si_stages.proofs.inserted.resolved_text.Goals as goal

-- ---- where a stage refuses
pub returns-in_err-resolved-clause-err : goal.returns-in_err-resolved-clause-err
returns-in_err-resolved-clause-err c =
    stops (resolved_text c.args.model.now c.args.states.now c.args.graph) c.from_residual.result _
    c.from_residual.ensures.1 (stop_first _ _ _ c.in_err-resolved.ensures.err)

pub returns-in_err-output-clause-err : goal.returns-in_err-output-clause-err
returns-in_err-output-clause-err c =
    stops (resolved_text c.args.model.now c.args.states.now c.args.graph)
    c.from_residual-in_err-output.result NoMemory c.from_residual-in_err-output.ensures.1 tt

-- ---- what the text asks for
pub current_text-requires : goal.current_text-requires
current_text-requires c =
    let l = c.in_ok-resolved.resolved in
    let states = c.args.states.now in
    let is = resolution_is c.args.graph states l c.in_ok-resolved.ensures.ok in
    let here : AreStateNames l.given.graph states =
    subst (λ (g : StateGraph). AreStateNames g states) (sym is.sound.same_graph) c.requires.states in
    subst (λ (m : History). AreStateNames m.given.graph states) (sym c.lineage.ensures.same) here

-- ---- the output
pub returns-clause-ok : goal.returns-clause-ok
returns-clause-ok c =
    let text = c.in_ok-output.ensures.text
    ∙ ap (λ (m : History). sg_text (current_sg c.args.model.now c.args.states.now m)) c.lineage.ensures.same in
    Passes c.in_ok-resolved.resolved c.in_ok-resolved.ensures.ok (ap (λ (t : List ℕ). Ok t) text)
