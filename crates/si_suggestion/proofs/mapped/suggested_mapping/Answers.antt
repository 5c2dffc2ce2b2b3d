use Rattle.std.proofs.Common.{ℕ, List, Ok, refl, sym, subst}
use Rattle.std.proofs.lemmas.Result.{IfOk-weaker}
use Rattle.si_base.specs.Graph.{StateGraph}
use Rattle.si_base.specs.Proper.{IsProper}
use Rattle.si_circuit.specs.Circuits.{AreStateNames}
use Rattle.si_circuit.specs.Spelled.{AreSpelled}
use Rattle.si_insert.specs.Lineage.{AllGiven}
use Rattle.si_readings.proofs.ReadingRefusals.{err_map, stops}
use Rattle.si_readings.proofs.StageLemmas.{stop_first, stop_next}
use Rattle.si_refusals.specs.Ending.{MayStop}
use Rattle.si_refusals.specs.Stages.{Passes}
use Rattle.si_refusals.specs.declared.refusals.Refusal.TheVariants.{NoMemory}
use Rattle.si_sg.proofs.GivenApart.{given_apart}
use Rattle.si_sg.specs.GivenGraph.{sg_now}
use Rattle.si_stages.specs.Mapping.{IsCellsText, shows_unfit}
use Rattle.si_suggestion.proofs.GivenNetlists.{given_signals, given_spelled, given_state_names}
use Rattle.si_suggestion.proofs.SuggestedCells.{is_suggested_mapping, suggested_stop}
use Rattle.si_suggestion.proofs.SuggestedLineages.{its_lineage, its_suggested, lineage_stop}
use Rattle.si_suggestion.specs.Suggested.{suggested_mapping}
use Rattle.si_suggestion.proofs.mapped.suggested_mapping.Goals as goal

-- ---- where a stage refuses
pub returns-in_err-proper-clause-err : goal.returns-in_err-proper-clause-err
returns-in_err-proper-clause-err c =
    let a = c.args in
    stops (suggested_mapping a.cells.now (sg_now a.given)) c.from_residual.result _ c.from_residual.ensures.1
    (stop_first _ _ _ c.in_err-proper.ensures.err)

pub returns-in_err-circuit-clause-err : goal.returns-in_err-circuit-clause-err
returns-in_err-circuit-clause-err c =
    let a = c.args in
    let sg = sg_now a.given in
    let graph = c.in_ok-proper.proper in
    stops (suggested_mapping a.cells.now sg) c.from_residual-in_err-circuit.result _
    c.from_residual-in_err-circuit.ensures.1
    (stop_next _ _ graph _ c.in_ok-proper.ensures.ok
    (stop_first _ _ _ (lineage_stop sg.model sg.states graph _ c.in_err-circuit.ensures.err)))

pub returns-in_err-resolved-clause-err : goal.returns-in_err-resolved-clause-err
returns-in_err-resolved-clause-err c =
    stops (suggested_mapping c.args.cells.now (sg_now c.args.given)) c.from_residual-in_err-resolved.result NoMemory
    c.from_residual-in_err-resolved.ensures.1 tt

-- ---- what the calls ask for
pub suggested_circuit-requires-clause-given : goal.suggested_circuit-requires-clause-given
suggested_circuit-requires-clause-given c =
    subst (λ (g : StateGraph). AllGiven g.signals) (sym c.in_ok-proper.ensures.ok.same_graph)
    (given_signals c.requires.given.0 (sg_now c.args.given) c.requires.given.1)

pub suggested_circuit-requires-clause-spelled : goal.suggested_circuit-requires-clause-spelled
suggested_circuit-requires-clause-spelled c =
    let sg = sg_now c.args.given in
    subst (λ (g : StateGraph). AreSpelled sg.model g.signals) (sym c.in_ok-proper.ensures.ok.same_graph)
    (given_spelled c.requires.given.0 sg c.requires.given.1)

pub suggested_circuit-requires-clause-states : goal.suggested_circuit-requires-clause-states
suggested_circuit-requires-clause-states c =
    let sg = sg_now c.args.given in
    subst (λ (g : StateGraph). AreStateNames g sg.states) (sym c.in_ok-proper.ensures.ok.same_graph)
    (given_state_names c.requires.given.0 sg c.requires.given.1)

pub lineage_again-requires-clause-count : goal.lineage_again-requires-clause-count
lineage_again-requires-clause-count c =
    let sg = sg_now c.args.given in
    (subst (λ (g : StateGraph). AreStateNames g sg.states) (sym c.in_ok-proper.ensures.ok.same_graph)
    (given_state_names c.requires.given.0 sg c.requires.given.1)).count

pub lineage_again-requires-clause-apart : goal.lineage_again-requires-clause-apart
lineage_again-requires-clause-apart c = given_apart c.requires.given.0 (sg_now c.args.given) c.requires.given.1

pub lineage_again-requires-clause-sound : goal.lineage_again-requires-clause-sound
lineage_again-requires-clause-sound c = record {
  coded_is = c.in_ok-proper.ensures.ok.coded_is;
  same_graph = refl;
  proper = subst IsProper (sym c.in_ok-proper.ensures.ok.same_graph) c.in_ok-proper.ensures.ok.proper;
}

pub lineage_again-requires-clause-suggested : goal.lineage_again-requires-clause-suggested
lineage_again-requires-clause-suggested c = ((sg_now c.args.given).model, c.in_ok-circuit.ensures.ok)

pub cells_text-requires-clause-spelled : goal.cells_text-requires-clause-spelled
cells_text-requires-clause-spelled c =
    let sg = sg_now c.args.given in
    (its_lineage c.requires.given.0 sg c.in_ok-proper.proper c.in_ok-circuit.circuit c.requires.given.1
    c.in_ok-proper.ensures.ok c.in_ok-circuit.ensures.ok c.in_ok-resolved.resolved c.in_ok-resolved.ensures).spelled

pub cells_text-requires-clause-states : goal.cells_text-requires-clause-states
cells_text-requires-clause-states c =
    let sg = sg_now c.args.given in
    (its_lineage c.requires.given.0 sg c.in_ok-proper.proper c.in_ok-circuit.circuit c.requires.given.1
    c.in_ok-proper.ensures.ok c.in_ok-circuit.ensures.ok c.in_ok-resolved.resolved c.in_ok-resolved.ensures).names

-- ---- the netlist of cells
pub returns-clause-ok : goal.returns-clause-ok
returns-clause-ok c =
    let library = c.args.cells.now in
    let sg = sg_now c.args.given in
    let graph = c.in_ok-proper.proper in
    let l = c.in_ok-resolved.resolved in
    let own = its_lineage c.requires.given.0 sg graph c.in_ok-circuit.circuit c.requires.given.1
    c.in_ok-proper.ensures.ok c.in_ok-circuit.ensures.ok l c.in_ok-resolved.ensures in
    let suggests = its_suggested sg graph c.in_ok-circuit.circuit c.in_ok-circuit.ensures.ok l c.in_ok-resolved.ensures in
    IfOk-weaker c.cells_text.result
    (λ (text : List ℕ). IsCellsText library sg.model sg.states l text)
    (λ (text : List ℕ). suggested_mapping library sg (Ok text))
    (λ output text. Passes graph c.in_ok-proper.ensures.ok (Passes l suggests
    (is_suggested_mapping library sg l c.requires.library own text.lineage output text.maps text.text_is)))
    c.cells_text.ensures.ok

pub returns-clause-err : goal.returns-clause-err
returns-clause-err c =
    let library = c.args.cells.now in
    let sg = sg_now c.args.given in
    let graph = c.in_ok-proper.proper in
    let l = c.in_ok-resolved.resolved in
    let suggests = its_suggested sg graph c.in_ok-circuit.circuit c.in_ok-circuit.ensures.ok l c.in_ok-resolved.ensures in
    err_map c.cells_text.result (MayStop (shows_unfit library sg.states l))
    (MayStop (suggested_mapping library sg))
    (λ e may. stop_next _ _ graph e c.in_ok-proper.ensures.ok
    (stop_next _ _ l e suggests (suggested_stop library sg l e may)))
    c.cells_text.ensures.err
