use Rattle.std.proofs.Common.{ℕ, List, Ok, subst, length}
use Rattle.std.proofs.lemmas.Result.{IfOk-weaker}
use Rattle.si_base.specs.Codes.{CodedGraph}
use Rattle.si_base.specs.Netlist.{Netlist}
use Rattle.si_base.specs.System.{IsFor}
use Rattle.si_readings.proofs.CheckLemmas.{match_over}
use Rattle.si_readings.proofs.ReadingRefusals.{err_map, stops}
use Rattle.si_readings.proofs.StageLemmas.{stop_first, stop_next}
use Rattle.si_refusals.specs.Ending.{MayStop}
use Rattle.si_refusals.specs.Stages.{Passes}
use Rattle.si_certify.specs.Certify.{IsSpelled, spelled_beside, spelling}
use Rattle.si_certify.specs.Hidden.{hiding}
use Rattle.si_certify.proofs.HiddenLemmas.{hidden_behind}
use Rattle.si_certify.proofs.certify.spelled_beside.Goals as goal

-- ---- where the lists differ
pub returns-in_err-match_lists-clause-err : goal.returns-in_err-match_lists-clause-err
returns-in_err-match_lists-clause-err c =
    let a = c.args in
    let hidden = hidden_behind a.graph c.coded.result.now c.graph-2.result.now c.signals-given.result.now a.netlist
    c.in_ok-netlist.netlist c.coded.ensures.same c.graph-2.ensures.same c.signals-given.ensures
    c.in_ok-netlist.ensures in
    stops (spelled_beside a.netlist_file.now a.states.now a.graph a.netlist)
    c.from_residual-in_err-match_lists.result _ c.from_residual-in_err-match_lists.ensures.1
    (stop_first _ _ _ (match_over a.netlist_file.now _ _ (hiding (length a.graph.graph.signals) a.netlist) _
    c.coded-2.ensures.same (rw hidden at c.in_err-match_lists.ensures.err)))

-- ---- the netlist with its lines
pub returns-clause-ok : goal.returns-clause-ok
returns-clause-ok c =
    let a = c.args in
    let hidden = hidden_behind a.graph c.coded.result.now c.graph-2.result.now c.signals-given.result.now a.netlist
    c.in_ok-netlist.netlist c.coded.ensures.same c.graph-2.ensures.same c.signals-given.ensures
    c.in_ok-netlist.ensures in
    let m = hiding (length a.graph.graph.signals) a.netlist in
    let over = subst (λ (k : CodedGraph). IsFor k c.in_ok-netlist.netlist) c.coded-2.ensures.same
    c.in_ok-match_lists.ensures.ok in
    let fits = subst (IsFor a.graph) hidden over in
    IfOk-weaker c.spelled.result (IsSpelled a.states.now a.graph c.in_ok-netlist.netlist)
    (λ (text : List ℕ). spelled_beside a.netlist_file.now a.states.now a.graph a.netlist (Ok text))
    (λ text told. Passes tt fits (subst (λ (n : Netlist). IsSpelled a.states.now a.graph n text) hidden told))
    c.spelled.ensures.ok

pub returns-clause-err : goal.returns-clause-err
returns-clause-err c =
    let a = c.args in
    let hidden = hidden_behind a.graph c.coded.result.now c.graph-2.result.now c.signals-given.result.now a.netlist
    c.in_ok-netlist.netlist c.coded.ensures.same c.graph-2.ensures.same c.signals-given.ensures
    c.in_ok-netlist.ensures in
    let over = subst (λ (k : CodedGraph). IsFor k c.in_ok-netlist.netlist) c.coded-2.ensures.same
    c.in_ok-match_lists.ensures.ok in
    let fits = subst (IsFor a.graph) hidden over in
    err_map c.spelled.result (MayStop (spelling a.states.now a.graph c.in_ok-netlist.netlist))
    (MayStop (spelled_beside a.netlist_file.now a.states.now a.graph a.netlist))
    (λ e may. stop_next _ _ tt e fits
    (subst (λ (n : Netlist). MayStop (spelling a.states.now a.graph n) e) hidden may))
    c.spelled.ensures.err
