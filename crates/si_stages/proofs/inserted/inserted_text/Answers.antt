use Rattle.std.proofs.Common.{List, Ok, ℕ, subst, sym}
use Rattle.std.proofs.lemmas.Result.{IfOk-weaker}
use Rattle.si_base.specs.Codes.{CodedGraph}
use Rattle.si_base.specs.Graph.{StateGraph}
use Rattle.si_base.specs.System.{IsFor}
use Rattle.si_circuit.specs.Circuits.{AreStateNames}
use Rattle.si_readings.proofs.CheckLemmas.{match_over}
use Rattle.si_readings.proofs.ReadingRefusals.{err_map, stops}
use Rattle.si_readings.proofs.StageLemmas.{stop_first, stop_next}
use Rattle.si_refusals.specs.Ending.{MayStop}
use Rattle.si_refusals.specs.Stages.{Passes}
use Rattle.si_sg.specs.GivenGraph.{sg_now}
use Rattle.si_stages.proofs.GivenLineages.{given_state_names}
use Rattle.si_stages.specs.Inserted.{inserted_text, text_with_insertions}
use Rattle.si_stages.proofs.inserted.inserted_text.Goals as goal

-- ---- where a stage refuses
pub returns-in_err-proper-clause-err : goal.returns-in_err-proper-clause-err
returns-in_err-proper-clause-err c =
    stops (inserted_text c.args.netlist_file.now (sg_now c.args.given) c.args.netlist.now) c.from_residual.result _
    c.from_residual.ensures.1 (stop_first _ _ _ c.in_err-proper.ensures.err)

pub returns-in_err-match_lists-clause-err : goal.returns-in_err-match_lists-clause-err
returns-in_err-match_lists-clause-err c =
    let a = c.args in
    stops (inserted_text a.netlist_file.now (sg_now a.given) a.netlist.now)
    c.from_residual-in_err-match_lists.result _ c.from_residual-in_err-match_lists.ensures.1
    (stop_next _ _ c.in_ok-proper.proper _ c.in_ok-proper.ensures.ok
    (stop_first _ _ _ (match_over a.netlist_file.now _ _ a.netlist.now _ c.coded.ensures.same
    c.in_err-match_lists.ensures.err)))

-- ---- what the call asks for
pub text_with_insertions-requires-clause-names : goal.text_with_insertions-requires-clause-names
text_with_insertions-requires-clause-names c =
    let given = sg_now c.args.given in
    subst (λ (g : StateGraph). AreStateNames g given.states) (sym c.in_ok-proper.ensures.ok.same_graph)
    (given_state_names c.requires.given.0 given c.requires.given.1)

-- ---- the text after the insertions
pub returns-clause-ok : goal.returns-clause-ok
returns-clause-ok c =
    let a = c.args in
    let given = sg_now a.given in
    let proper = c.in_ok-proper.proper in
    let fits = subst (λ (k : CodedGraph). IsFor k a.netlist.now) c.coded.ensures.same c.in_ok-match_lists.ensures.ok in
    IfOk-weaker c.text_with_insertions.result
    (λ (text : List ℕ). text_with_insertions given.model given.states proper a.netlist.now (Ok text))
    (λ (text : List ℕ). inserted_text a.netlist_file.now given a.netlist.now (Ok text))
    (λ text told. Passes proper c.in_ok-proper.ensures.ok (Passes tt fits told))
    c.text_with_insertions.ensures.ok

pub returns-clause-err : goal.returns-clause-err
returns-clause-err c =
    let a = c.args in
    let given = sg_now a.given in
    let proper = c.in_ok-proper.proper in
    let fits = subst (λ (k : CodedGraph). IsFor k a.netlist.now) c.coded.ensures.same c.in_ok-match_lists.ensures.ok in
    err_map c.text_with_insertions.result
    (MayStop (text_with_insertions given.model given.states proper a.netlist.now))
    (MayStop (inserted_text a.netlist_file.now given a.netlist.now))
    (λ e may. stop_next _ _ proper e c.in_ok-proper.ensures.ok (stop_next _ _ tt e fits may))
    c.text_with_insertions.ensures.err
