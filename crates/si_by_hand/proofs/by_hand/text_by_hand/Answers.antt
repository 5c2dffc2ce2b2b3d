use Rattle.std.proofs.Common.{List, Ok, ℕ, subst, sym}
use Rattle.std.proofs.lemmas.Result.{IfOk-weaker}
use Rattle.si_base.specs.Graph.{StateGraph}
use Rattle.si_circuit.specs.Circuits.{AreStateNames}
use Rattle.si_insert.specs.Lineage.{AllGiven}
use Rattle.si_readings.proofs.ReadingRefusals.{err_map, stops}
use Rattle.si_readings.proofs.StageLemmas.{stop_first, stop_next}
use Rattle.si_refusals.specs.Ending.{MayStop}
use Rattle.si_refusals.specs.Stages.{Passes}
use Rattle.si_sg.specs.GivenGraph.{sg_now}
use Rattle.si_stages.proofs.GivenLineages.{given_signals, given_state_names}
use Rattle.si_by_hand.specs.ByHand.{text_by_hand, text_with_gate}
use Rattle.si_by_hand.specs.Loops.NewNames.{IsNewName}
use Rattle.si_by_hand.specs.Loops.Handed.{new_gate_now}
use Rattle.si_by_hand.proofs.by_hand.text_by_hand.Goals as goal

-- ---- where the graph isn't proper
pub returns-in_err-proper-clause-err : goal.returns-in_err-proper-clause-err
returns-in_err-proper-clause-err c =
    stops (text_by_hand (sg_now c.args.given) (new_gate_now c.args.made)) c.from_residual.result _
    c.from_residual.ensures.1 (stop_first _ _ _ c.in_err-proper.ensures.err)

-- ---- what the call asks for
pub text_with_gate-requires-clause-given : goal.text_with_gate-requires-clause-given
text_with_gate-requires-clause-given c =
    subst (λ (g : StateGraph). AllGiven g.signals) (sym c.in_ok-proper.ensures.ok.same_graph)
    (given_signals c.requires.given.0 (sg_now c.args.given) c.requires.given.1)

pub text_with_gate-requires-clause-names : goal.text_with_gate-requires-clause-names
text_with_gate-requires-clause-names c =
    let given = sg_now c.args.given in
    subst (λ (g : StateGraph). AreStateNames g given.states) (sym c.in_ok-proper.ensures.ok.same_graph)
    (given_state_names c.requires.given.0 given c.requires.given.1)

pub text_with_gate-requires-clause-new : goal.text_with_gate-requires-clause-new
text_with_gate-requires-clause-new c =
    subst (λ (g : StateGraph). IsNewName g.signals c.args.made.name) (sym c.in_ok-proper.ensures.ok.same_graph)
    c.requires.new

-- ---- the text after the insertion
pub returns-clause-ok : goal.returns-clause-ok
returns-clause-ok c =
    let given = sg_now c.args.given in
    let made = new_gate_now c.args.made in
    let proper = c.in_ok-proper.proper in
    IfOk-weaker c.text_with_gate.result
    (λ (text : List ℕ). text_with_gate given.model given.states proper made (Ok text))
    (λ (text : List ℕ). text_by_hand given made (Ok text))
    (λ text told. Passes proper c.in_ok-proper.ensures.ok told)
    c.text_with_gate.ensures.ok

pub returns-clause-err : goal.returns-clause-err
returns-clause-err c =
    let given = sg_now c.args.given in
    let made = new_gate_now c.args.made in
    let proper = c.in_ok-proper.proper in
    err_map c.text_with_gate.result (MayStop (text_with_gate given.model given.states proper made))
    (MayStop (text_by_hand given made)) (λ e may. stop_next _ _ proper e c.in_ok-proper.ensures.ok may)
    c.text_with_gate.ensures.err
