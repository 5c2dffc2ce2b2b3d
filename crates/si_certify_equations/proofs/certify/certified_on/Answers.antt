use Rattle.std.proofs.Common.{ℕ, List, Ok, subst, sym}
use Rattle.std.proofs.lemmas.Result.{IfOk-weaker}
use Rattle.si_base.specs.Codes.{CodedGraph}
use Rattle.si_base.specs.Graph.{StateGraph}
use Rattle.si_circuit.specs.Circuits.{AreStateNames}
use Rattle.si_equations_reader.specs.Read.{equations_now}
use Rattle.si_readings.proofs.ReadingRefusals.{err_map, stops}
use Rattle.si_readings.proofs.StageLemmas.{stop_first, stop_next}
use Rattle.si_refusals.specs.Ending.{MayStop, ending_of}
use Rattle.si_refusals.specs.Stages.{Passes}
use Rattle.si_sg.specs.GivenGraph.{sg_now}
use Rattle.si_certify_equations.specs.Certify.{certified_on, netlist_of_equations}
use Rattle.si_certify_equations.specs.Starts.{spelled_first}
use Rattle.si_certify_equations.proofs.CertifyLemmas.{coded_names}
use Rattle.si_certify_equations.proofs.NetlistStage.{beside_few, beside_for, beside_more, beside_start}
use Rattle.si_certify_equations.proofs.NetlistStage.{netlist_is_beside, netlist_over}
use Rattle.si_certify_equations.proofs.certify.certified_on.Goals as goal

-- ---- where the graph isn't proper, or there is no netlist
pub returns-in_err-proper-clause-err : goal.returns-in_err-proper-clause-err
returns-in_err-proper-clause-err c =
    let a = c.args in
    stops (certified_on a.equations_file.now (sg_now a.given) (equations_now a.equations.now))
    c.from_residual.result _ c.from_residual.ensures.1
    (stop_first _ _ _ c.in_err-proper.ensures.err)

pub returns-in_err-netlist-clause-err : goal.returns-in_err-netlist-clause-err
returns-in_err-netlist-clause-err c =
    let a = c.args in
    stops (certified_on a.equations_file.now (sg_now a.given) (equations_now a.equations.now))
    c.from_residual-in_err-netlist.result _ c.from_residual-in_err-netlist.ensures.1
    (stop_next _ _ c.in_ok-proper.proper _ c.in_ok-proper.ensures.ok (stop_first _ _ _
    (subst (λ (k : CodedGraph). MayStop (netlist_of_equations a.equations_file.now a.given.model k
    (equations_now a.equations.now)) (ending_of c.in_err-netlist.field-0.0)) c.coded.ensures.same c.in_err-netlist.ensures.err)))

-- ---- what the calls ask for
pub netlist_of_equations-requires-clause-given : goal.netlist_of_equations-requires-clause-given
netlist_of_equations-requires-clause-given c =
    let names = coded_names (sg_now c.args.given) c.in_ok-proper.proper c.in_ok-proper.ensures.ok c.requires.given in
    rw c.coded.ensures.same names

pub spelled_first-requires : goal.spelled_first-requires
spelled_first-requires c =
    let a = c.args in
    let e = equations_now a.equations.now in
    let proper = c.in_ok-proper.proper in
    let names = coded_names (sg_now a.given) proper c.in_ok-proper.ensures.ok c.requires.given in
    let comes = netlist_over a.equations_file.now a.given.model _ proper e _ c.coded.ensures.same c.in_ok-netlist.ensures.ok in
    let is = netlist_is_beside a.equations_file.now a.given.model proper e c.in_ok-netlist.netlist comes in
    record {
      names = subst (λ (g : StateGraph). AreStateNames g a.given.states) (sym c.in_ok-proper.ensures.ok.same_graph)
          c.requires.states;
      fits = beside_for a.given.model proper e c.in_ok-netlist.netlist is names;
      start = beside_start a.given.model proper e c.in_ok-netlist.netlist is;
      more = beside_more a.given.model proper e c.in_ok-netlist.netlist is;
      few = beside_few a.given.model proper e c.in_ok-netlist.netlist is;
    }

-- ---- the netlist with its lines
pub returns-clause-ok : goal.returns-clause-ok
returns-clause-ok c =
    let a = c.args in
    let e = equations_now a.equations.now in
    let proper = c.in_ok-proper.proper in
    let comes = netlist_over a.equations_file.now a.given.model _ proper e _ c.coded.ensures.same c.in_ok-netlist.ensures.ok in
    IfOk-weaker c.spelled_first.result
    (λ (text : List ℕ). spelled_first a.given.states proper c.in_ok-netlist.netlist (Ok text))
    (λ (text : List ℕ). certified_on a.equations_file.now (sg_now a.given) e (Ok text))
    (λ text told. Passes proper c.in_ok-proper.ensures.ok (Passes c.in_ok-netlist.netlist comes told))
    c.spelled_first.ensures.ok

pub returns-clause-err : goal.returns-clause-err
returns-clause-err c =
    let a = c.args in
    let e = equations_now a.equations.now in
    let proper = c.in_ok-proper.proper in
    let comes = netlist_over a.equations_file.now a.given.model _ proper e _ c.coded.ensures.same c.in_ok-netlist.ensures.ok in
    err_map c.spelled_first.result (MayStop (spelled_first a.given.states proper c.in_ok-netlist.netlist))
    (MayStop (certified_on a.equations_file.now (sg_now a.given) e))
    (λ x may. stop_next _ _ proper x c.in_ok-proper.ensures.ok (stop_next _ _ c.in_ok-netlist.netlist x comes may))
    c.spelled_first.ensures.err
