use Rattle.std.proofs.Common.{◌≡◌, ℕ, List, Ok, subst, ◌∙◌}
use Rattle.std.proofs.lemmas.Result.{IfOk-weaker}
use Rattle.si_equations_reader.specs.Read.{equations_now}
use Rattle.si_readings.proofs.ReadingRefusals.{err_map, stops}
use Rattle.si_readings.proofs.StageLemmas.{stop_first, stop_next}
use Rattle.si_refusals.specs.Ending.{MayStop, ending_of}
use Rattle.si_refusals.specs.Stages.{Passes}
use Rattle.si_sg.specs.GivenGraph.{sg_now}
use Rattle.si_stages.proofs.GivenLineages.{given_state_names}
use Rattle.si_certify_equations.specs.Certify.{certified_on, certify_equations, read_code, spelled_by}
use Rattle.si_certify_equations.proofs.CertifyLemmas.{given_names, spelled_whole}
use Rattle.si_certify_equations.proofs.certify.certify_equations.Goals as goal

-- ---- where a text has a fault
pub returns-in_err-given-clause-err : goal.returns-in_err-given-clause-err
returns-in_err-given-clause-err c =
    let a = c.args in
    stops (certify_equations a.form a.graph_file.now a.graph.now a.equations_file.now a.equations.now)
    c.from_residual-in_err-given.result _ c.from_residual-in_err-given.ensures.1
    (stop_first _ _ _ c.in_err-given.ensures.err)

pub returns-in_err-equations-clause-err : goal.returns-in_err-equations-clause-err
returns-in_err-equations-clause-err c =
    let a = c.args in
    stops (certify_equations a.form a.graph_file.now a.graph.now a.equations_file.now a.equations.now)
    c.from_residual-in_err-equations.result _ c.from_residual-in_err-equations.ensures.1
    (stop_next _ _ (sg_now c.in_ok-given.given) _ c.in_ok-given.ensures.ok (stop_first _ _ _
    (subst (λ (code : List ℕ). MayStop (read_code a.form a.equations_file.now code)
    (ending_of c.in_err-equations.field-0.0)) (c.bytes.ensures ∙ c.in_ok-code.ensures) c.in_err-equations.ensures.err)))

-- ---- what the call asks for
pub certified_on-requires-clause-states : goal.certified_on-requires-clause-states
certified_on-requires-clause-states c =
    given_state_names c.args.graph.now (sg_now c.in_ok-given.given) c.in_ok-given.ensures.ok

pub certified_on-requires-clause-given : goal.certified_on-requires-clause-given
certified_on-requires-clause-given c =
    given_names c.args.graph.now (sg_now c.in_ok-given.given) c.in_ok-given.ensures.ok

pub certified_on-requires-clause-whole : goal.certified_on-requires-clause-whole
certified_on-requires-clause-whole c =
    let e = equations_now c.in_ok-equations.equations in
    spelled_whole c.args.form c.args.equations.now e
    (subst (λ (code : List ℕ). spelled_by c.args.form code ≡ Ok e) (c.bytes.ensures ∙ c.in_ok-code.ensures)
    c.in_ok-equations.ensures.ok)

-- ---- the netlist with its lines
pub returns-clause-ok : goal.returns-clause-ok
returns-clause-ok c =
    let a = c.args in
    let sg = sg_now c.in_ok-given.given in
    let e = equations_now c.in_ok-equations.equations in
    let spelled = subst (λ (code : List ℕ). spelled_by a.form code ≡ Ok e) (c.bytes.ensures ∙ c.in_ok-code.ensures)
    c.in_ok-equations.ensures.ok in
    IfOk-weaker c.certified_on.result
    (λ (text : List ℕ). certified_on a.equations_file.now sg e (Ok text))
    (λ (text : List ℕ). certify_equations a.form a.graph_file.now a.graph.now a.equations_file.now
    a.equations.now (Ok text))
    (λ text told. Passes sg c.in_ok-given.ensures.ok (Passes e spelled told))
    c.certified_on.ensures.ok

pub returns-clause-err : goal.returns-clause-err
returns-clause-err c =
    let a = c.args in
    let sg = sg_now c.in_ok-given.given in
    let e = equations_now c.in_ok-equations.equations in
    let spelled = subst (λ (code : List ℕ). spelled_by a.form code ≡ Ok e) (c.bytes.ensures ∙ c.in_ok-code.ensures)
    c.in_ok-equations.ensures.ok in
    err_map c.certified_on.result (MayStop (certified_on a.equations_file.now sg e))
    (MayStop (certify_equations a.form a.graph_file.now a.graph.now a.equations_file.now a.equations.now))
    (λ x may. stop_next _ _ sg x c.in_ok-given.ensures.ok (stop_next _ _ e x spelled may))
    c.certified_on.ensures.err
