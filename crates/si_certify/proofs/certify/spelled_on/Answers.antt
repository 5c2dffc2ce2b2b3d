use Rattle.std.proofs.Common.{ℕ, List, Ok, subst, sym}
use Rattle.std.proofs.lemmas.Result.{IfOk-weaker}
use Rattle.si_base.specs.Graph.{StateGraph}
use Rattle.si_circuit.specs.Circuits.{AreStateNames}
use Rattle.si_readings.proofs.ReadingRefusals.{err_map, stops}
use Rattle.si_readings.proofs.StageLemmas.{stop_first, stop_next}
use Rattle.si_refusals.specs.Ending.{MayStop}
use Rattle.si_refusals.specs.Stages.{Passes}
use Rattle.si_certify.specs.Certify.{spelled_beside, spelled_on}
use Rattle.si_certify.proofs.certify.spelled_on.Goals as goal

-- ---- where the graph isn't proper
pub returns-in_err-proper-clause-err : goal.returns-in_err-proper-clause-err
returns-in_err-proper-clause-err c =
    let a = c.args in
    stops (spelled_on a.netlist_file.now a.graph a.states.now a.netlist) c.from_residual.result _
    c.from_residual.ensures.1 (stop_first _ _ _ c.in_err-proper.ensures.err)

-- ---- what the call asks for
pub spelled_beside-requires : goal.spelled_beside-requires
spelled_beside-requires c = record {
  names = subst (λ (g : StateGraph). AreStateNames g c.args.states.now) (sym c.in_ok-proper.ensures.ok.same_graph)
      c.requires.states;
}

-- ---- the netlist with its lines
pub returns-clause-ok : goal.returns-clause-ok
returns-clause-ok c =
    let a = c.args in
    let proper = c.in_ok-proper.proper in
    IfOk-weaker c.spelled_beside.result
    (λ (text : List ℕ). spelled_beside a.netlist_file.now a.states.now proper a.netlist (Ok text))
    (λ (text : List ℕ). spelled_on a.netlist_file.now a.graph a.states.now a.netlist (Ok text))
    (λ text told. Passes proper c.in_ok-proper.ensures.ok told)
    c.spelled_beside.ensures.ok

pub returns-clause-err : goal.returns-clause-err
returns-clause-err c =
    let a = c.args in
    let proper = c.in_ok-proper.proper in
    err_map c.spelled_beside.result
    (MayStop (spelled_beside a.netlist_file.now a.states.now proper a.netlist))
    (MayStop (spelled_on a.netlist_file.now a.graph a.states.now a.netlist))
    (λ e may. stop_next _ _ proper e c.in_ok-proper.ensures.ok may)
    c.spelled_beside.ensures.err
