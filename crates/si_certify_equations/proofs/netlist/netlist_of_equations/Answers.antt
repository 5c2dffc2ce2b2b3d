use Rattle.std.proofs.Common.{◌≡◌, ℕ, List, Ok, None, Some, refl, subst, length, arith, ap}
use Rattle.si_base.specs.declared.graph.Signal.{Signal}
use Rattle.si_base.specs.Graph.{StateGraph}
use Rattle.si_equations_reader.specs.Read.{equations_now}
use Rattle.si_from_equations.specs.Beside.{all_signals, lists_place, unsummed}
use Rattle.si_from_equations.specs.Unsummed.{Tells}
use Rattle.si_from_equations.specs.declared.unsummed.Unsummed.TheVariants.{Products}
use Rattle.si_readings.proofs.ReadingRefusals.{stops}
use Rattle.si_readings.proofs.StageLemmas.{stop_first, stop_next}
use Rattle.si_refusals.specs.Ending.{MayStop, ending_of}
use Rattle.si_refusals.specs.Stages.{Passes}
use Rattle.si_certify_equations.specs.Certify.{few_hidden, match_signals, netlist_of_equations}
use Rattle.si_certify_equations.proofs.NetlistStage.{all_signals_few, hidden_count}
use Rattle.si_certify_equations.proofs.netlist.netlist_of_equations.Goals as goal

-- ---- where the lists differ
pub returns-in_err-match_signals-clause-err : goal.returns-in_err-match_signals-clause-err
returns-in_err-match_signals-clause-err c =
    let a = c.args in
    let e = equations_now a.equations.now in
    stops (netlist_of_equations a.file.now a.model a.graph.now e) c.from_residual.result _ c.from_residual.ensures.1
    (stop_first _ _ _ (subst (λ (g : StateGraph). MayStop (match_signals a.file.now g.signals e)
    (ending_of c.in_err-match_signals.field-0.0)) c.graph-given.ensures.same c.in_err-match_signals.ensures.err))

-- ---- where too many signals are hidden
pub few_hidden-requires : goal.few_hidden-requires
few_hidden-requires c =
    let a = c.args in
    let e = equations_now a.equations.now in
    let lists : lists_place a.graph.now.graph.signals e ≡ None =
    subst (λ (g : StateGraph). lists_place g.signals e ≡ None) c.graph-given.ensures.same c.in_ok-match_signals.ensures.ok in
    let few = all_signals_few a.model a.graph.now e c.graph-given.ensures.coded c.requires.given c.requires.whole lists in
    let all : c.in_ok-signals.signals.items ≡ all_signals a.graph.now.graph.signals e =
    subst (λ (g : StateGraph). c.in_ok-signals.signals.items ≡ all_signals g.signals e) c.graph-given.ensures.same
    c.in_ok-signals.ensures in
    omega (arith, c.len.ensures, ap (length {A = Signal}) all, few)

pub returns-in_err-few_hidden-clause-err : goal.returns-in_err-few_hidden-clause-err
returns-in_err-few_hidden-clause-err c =
    let a = c.args in
    let e = equations_now a.equations.now in
    let matched = subst (λ (g : StateGraph). match_signals a.file.now g.signals e (Ok tt)) c.graph-given.ensures.same
    c.in_ok-match_signals.ensures.ok in
    let count = hidden_count e _ a.graph.now.graph _ _ _ c.graph-given.ensures.same c.in_ok-signals.ensures
    (omega (arith, c.len.ensures)) c.signals.ensures in
    stops (netlist_of_equations a.file.now a.model a.graph.now e) c.from_residual-in_err-few_hidden.result _
    c.from_residual-in_err-few_hidden.ensures.1
    (stop_next _ _ tt _ matched (stop_first _ _ _ (subst (λ (k : ℕ). MayStop (few_hidden k)
    (ending_of c.in_err-few_hidden.field-0.0)) count c.in_err-few_hidden.ensures.err)))

-- ---- the netlist
pub returns-in-Ok-clause-ok : goal.returns-in-Ok-clause-ok
returns-in-Ok-clause-ok c =
    let a = c.args in
    let e = equations_now a.equations.now in
    let matched = subst (λ (g : StateGraph). match_signals a.file.now g.signals e (Ok tt)) c.graph-given.ensures.same
    c.in_ok-match_signals.ensures.ok in
    let count = hidden_count e _ a.graph.now.graph _ _ _ c.graph-given.ensures.same c.in_ok-signals.ensures
    (omega (arith, c.len.ensures)) c.signals.ensures in
    let few = subst (λ (k : ℕ). few_hidden k (Ok tt)) count c.in_ok-few_hidden.ensures.ok in
    let all = subst (λ (g : StateGraph). c.in_ok-signals.signals.items ≡ all_signals g.signals e)
    c.graph-given.ensures.same c.in_ok-signals.ensures in
    let summed = subst (λ (signals : List Signal). unsummed signals e ≡ None) all c.in-Ok.ensures.summed in
    Passes tt matched (Passes tt few (summed, c.in-Ok.ensures.netlist))

pub returns-in-Err-Products-clause-err : goal.returns-in-Err-Products-clause-err
returns-in-Err-Products-clause-err c =
    let a = c.args in
    let e = equations_now a.equations.now in
    let matched = subst (λ (g : StateGraph). match_signals a.file.now g.signals e (Ok tt)) c.graph-given.ensures.same
    c.in_ok-match_signals.ensures.ok in
    let count = hidden_count e _ a.graph.now.graph _ _ _ c.graph-given.ensures.same c.in_ok-signals.ensures
    (omega (arith, c.len.ensures)) c.signals.ensures in
    let few = subst (λ (k : ℕ). few_hidden k (Ok tt)) count c.in_ok-few_hidden.ensures.ok in
    let all = subst (λ (g : StateGraph). c.in_ok-signals.signals.items ≡ all_signals g.signals e)
    c.graph-given.ensures.same c.in_ok-signals.ensures in
    let told : Tells (unsummed c.in_ok-signals.signals.items e) (Products c.in-Err-Products.signal) =
    rw c.in-Err-Products.field-0-is at c.in-Err-Products.ensures.missing in
    let missing = subst (λ (signals : List Signal). unsummed signals e ≡ Some c.in-Err-Products.signal) all told in
    Passes tt matched (Passes tt few (c.in-Err-Products.signal, missing, refl))
