use Rattle.std.proofs.Common.{Ok, ap, subst, sym, ◌∙◌}
use Rattle.std.proofs.lemmas.Result.{IfOk-weaker}
use Rattle.si_base.specs.Codes.{CodedGraph}
use Rattle.si_base.specs.Graph.{StateGraph}
use Rattle.si_base.specs.System.{IsFor}
use Rattle.si_refusals.specs.Ending.{MayStop}
use Rattle.si_refusals.specs.Stages.{Passes}
use Rattle.si_reports.specs.Replayed.{replay_end, replay_on}
use Rattle.si_readings.proofs.ReadingRefusals.{err_map, stops}
use Rattle.si_readings.proofs.CheckLemmas.{match_over}
use Rattle.si_readings.proofs.StageLemmas.{stop_first, stop_next}
use Rattle.si_reports.proofs.replayed.replay_on.Goals as goal

-- ---- where a stage refuses
pub returns-in_err-proper-clause-err : goal.returns-in_err-proper-clause-err
returns-in_err-proper-clause-err c =
    let a = c.args in
    stops (replay_on a.what a.netlist_file.now a.graph a.states.now a.netlist.now a.events.now.items)
    c.from_residual.result _ c.from_residual.ensures.1 (stop_first _ _ _ c.in_err-proper.ensures.err)

pub returns-in_err-match_lists-clause-err : goal.returns-in_err-match_lists-clause-err
returns-in_err-match_lists-clause-err c =
    let a = c.args in
    stops (replay_on a.what a.netlist_file.now a.graph a.states.now a.netlist.now a.events.now.items)
    c.from_residual-in_err-match_lists.result _ c.from_residual-in_err-match_lists.ensures.1
    (stop_next _ _ c.in_ok-proper.proper _ c.in_ok-proper.ensures.ok
    (stop_first _ _ _ (match_over a.netlist_file.now _ _ a.netlist.now _ c.coded-coded.ensures.same
    c.in_err-match_lists.ensures.err)))

-- ---- what the call asks for
pub replay_end-requires-clause-names : goal.replay_end-requires-clause-names
replay_end-requires-clause-names c =
    let graph = ap (λ (k : CodedGraph). k.graph) c.coded-coded.ensures.same ∙ c.in_ok-proper.ensures.ok.same_graph in
    c.requires.named.names ∙ sym (ap (λ (g : StateGraph). g.states) graph)

-- ---- where the schedule ends
pub returns-clause-ok : goal.returns-clause-ok
returns-clause-ok c =
    let a = c.args in
    let states = a.states.now in
    let events = a.events.now.items in
    let proper = c.in_ok-proper.proper in
    let sound = c.in_ok-proper.ensures.ok in
    let coded = c.coded-coded.result.now in
    let same = c.coded-coded.ensures.same in
    let graph = ap (λ (k : CodedGraph). k.graph) same ∙ sound.same_graph in
    let fits = subst (λ (k : CodedGraph). IsFor k a.netlist.now) same c.in_ok-match_lists.ensures.ok in
    IfOk-weaker c.replay_end.result
    (λ text. replay_end a.what coded.graph states a.netlist.now events (Ok text))
    (λ text. replay_on a.what a.netlist_file.now a.graph states a.netlist.now events (Ok text))
    (λ text ends. Passes proper sound (Passes tt fits
    (subst (λ (g : StateGraph). replay_end a.what g states a.netlist.now events (Ok text)) graph ends)))
    c.replay_end.ensures.ok

pub returns-clause-err : goal.returns-clause-err
returns-clause-err c =
    let a = c.args in
    let states = a.states.now in
    let events = a.events.now.items in
    let proper = c.in_ok-proper.proper in
    let sound = c.in_ok-proper.ensures.ok in
    let coded = c.coded-coded.result.now in
    let same = c.coded-coded.ensures.same in
    let graph = ap (λ (k : CodedGraph). k.graph) same ∙ sound.same_graph in
    let fits = subst (λ (k : CodedGraph). IsFor k a.netlist.now) same c.in_ok-match_lists.ensures.ok in
    err_map c.replay_end.result (MayStop (replay_end a.what coded.graph states a.netlist.now events))
    (MayStop (replay_on a.what a.netlist_file.now a.graph states a.netlist.now events))
    (λ e may. stop_next _ _ proper e sound (stop_next _ _ tt e fits
    (subst (λ (g : StateGraph). MayStop (replay_end a.what g states a.netlist.now events) e) graph may)))
    c.replay_end.ensures.err
