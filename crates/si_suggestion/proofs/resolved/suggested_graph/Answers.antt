use Rattle.std.proofs.Common.{◌∙◌, ℕ, List, Ok, ap, sym, subst}
use Rattle.si_base.specs.Codes.{CodedGraph}
use Rattle.si_circuit.specs.Circuits.{AreStateNames}
use Rattle.si_insert.specs.Lineage.{History}
use Rattle.si_inserted.specs.Current.{current_sg}
use Rattle.si_readings.proofs.ReadingRefusals.{stops}
use Rattle.si_readings.proofs.StageLemmas.{stop_first}
use Rattle.si_refusals.specs.Stages.{Passes}
use Rattle.si_refusals.specs.declared.refusals.Refusal.TheVariants.{NoMemory}
use Rattle.si_sg.specs.CanonicalText.{sg_text}
use Rattle.si_suggestion.specs.Suggested.{suggested_graph}
use Rattle.si_suggestion.proofs.SuggestedLineages.{lineage_stop}
use Rattle.si_suggestion.proofs.resolved.suggested_graph.Goals as goal

-- ---- where a stage refuses
pub returns-in_err-circuit-clause-err : goal.returns-in_err-circuit-clause-err
returns-in_err-circuit-clause-err c =
    let a = c.args in
    stops (suggested_graph a.model.now a.states.now a.given.now) c.from_residual.result _ c.from_residual.ensures.1
    (stop_first _ _ _ (lineage_stop a.model.now a.states.now a.given.now _ c.in_err-circuit.ensures.err))

pub returns-in_err-output-clause-err : goal.returns-in_err-output-clause-err
returns-in_err-output-clause-err c =
    let a = c.args in
    stops (suggested_graph a.model.now a.states.now a.given.now) c.from_residual-in_err-output.result NoMemory
    c.from_residual-in_err-output.ensures.1 tt

-- ---- what the text asks for
pub current_text-requires : goal.current_text-requires
current_text-requires c =
    let its = c.in_ok-circuit.ensures.ok in
    let Named : CodedGraph → Type 0 = λ g. AreStateNames g.graph c.args.states.now in
    let here = subst Named (sym its.suggestion.given_is) c.requires.states in
    subst (λ (l : History). AreStateNames l.given.graph c.args.states.now)
    (its.lineage_is ∙ sym (c.lineage.ensures.same ∙ c.resolved.ensures)) here

-- ---- the output
pub returns-clause-ok : goal.returns-clause-ok
returns-clause-ok c =
    let a = c.args in
    let its = c.in_ok-circuit.ensures.ok in
    let l = c.in_ok-circuit.circuit.lineage in
    let text = c.in_ok-output.ensures.text
    ∙ ap (λ (m : History). sg_text (current_sg a.model.now a.states.now m))
    (c.lineage.ensures.same ∙ c.resolved.ensures) in
    Passes l (record { output = _; suggestion = its.suggestion; lineage_is = its.lineage_is })
    (ap (λ (t : List ℕ). Ok t) text)
